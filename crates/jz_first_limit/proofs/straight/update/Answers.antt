use Rattle.std.proofs.Common.{◌∙◌, ap, sym}
use Rattle.std.specs.Option.{option_copied}
use Rattle.jz_limits.specs.InnerKnown.{numbers_of}
use Rattle.jz_first_limit.proofs.Setting.{other_known}
use Rattle.jz_first_limit.proofs.straight.update.Goals as goal

pub returns-in-None : goal.returns-in-None
returns-in-None c = λ at.
    other_known (numbers_of c.args.known.now) c.args.assigning.to.now c.args.assigning.op c.args.value.now c.args.assigning.cond.now at
    (sym (ap option_copied c.in-None.is) ∙ c.inline_target.ensures)
