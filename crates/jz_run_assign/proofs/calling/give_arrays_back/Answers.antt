use Rattle.std.proofs.Common.{ap, sym, ◌∙◌, rules}
use Rattle.std.specs.Option.{option_copied}
use Rattle.jz_meaning.specs.Stores.{store_of}
use Rattle.jz_run_assign.proofs.StepLemmas.{back_more, back_short}
use Rattle.jz_run_assign.proofs.calling.give_arrays_back.Goals as goal

pub returns-in-None : goal.returns-in-None
returns-in-None c =
    back_short c.args.params.now c.args.args.now c.loop-i.i (store_of c.args.inner.now) (store_of c.loop-i.outer) _ c.loop-i.invariant (sym c.get.ensures.value ∙ ap option_copied c.in-None.is)

pub loop-i-preserved : goal.loop-i-preserved
loop-i-preserved c =
    back_more c.args.params.now c.args.args.now c.loop-i.i (store_of c.args.inner.now) (store_of c.loop-i.outer) _ c.loop-i.invariant c.param-item.result c.in-Some.arg.now
    (store_of c.give_array_back.new.outer) (search rules) (search rules) (sym c.get.ensures.value ∙ ap option_copied c.in-Some.is) c.in_ok-give_array_back-in-Some.ensures
