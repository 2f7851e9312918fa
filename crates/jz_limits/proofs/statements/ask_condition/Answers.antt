use Rattle.std.proofs.Common.{◌∙◌, None, ap}
use Rattle.jz_limits.specs.declared.operands.Role.TheVariants as role
use Rattle.jz_limits.specs.InnerKnown.{numbers_of}
use Rattle.jz_limits.specs.Asked.{asked_as}
use Rattle.jz_limits.specs.InnerLooked.{first_in_kinds}
use Rattle.jz_limits.proofs.PartLemmas.{first_kinds}
use Rattle.jz_limits.proofs.statements.ask_condition.Goals as goal

pub returns : goal.returns
returns c =
    c.first_of.ensures
    ∙ (ap first_in_kinds c.in_ok-firsts.ensures
    ∙ first_kinds (asked_as (numbers_of c.args.numbers.now) role.Test None c.args.cond.now))
