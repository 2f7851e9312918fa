use Rattle.jz_unrolling_values.specs.InlineNames.{names_in}
use Rattle.jz_unrolling_values.specs.Numbers.{numbers_in}
use Rattle.jz_unrolling_values.proofs.NumberLemmas.{went_none, went_set}
use Rattle.jz_unrolling.proofs.ForgetLemmas.{no_target, one_target}
use Rattle.jz_unrolling.proofs.forgetting.forget_target.Goals as goal

pub returns-in-None-clause-numbers : goal.returns-in-None-clause-numbers
returns-in-None-clause-numbers c = no_target (names_in c.args.vars.now) c.args.to.now (numbers_in c.args.known.now) c.in-None.ensures

pub returns-in-None-clause-went : goal.returns-in-None-clause-went
returns-in-None-clause-went c = went_none c.args.known.now

pub returns-in_ok-set-in-Some-clause-numbers : goal.returns-in_ok-set-in-Some-clause-numbers
returns-in_ok-set-in-Some-clause-numbers c =
    one_target (names_in c.args.vars.now) c.args.to.now c.in-Some.var.now c.args.known.now c.set.new.self c.in-Some.ensures.0 c.in-Some.ensures.1 c.in_ok-set-in-Some.ensures

pub returns-in_ok-set-in-Some-clause-went : goal.returns-in_ok-set-in-Some-clause-went
returns-in_ok-set-in-Some-clause-went c = went_set c.args.known.now c.set.new.self _ _ _ c.in_ok-set-in-Some.ensures
