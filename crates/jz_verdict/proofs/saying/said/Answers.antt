use Rattle.std.proofs.Common.{subst}
use Rattle.jz_ct.specs.Told.{told_by, HasFirstBreach, breach_of}
use Rattle.jz_ct.specs.declared.judging.Ct.{Ct}
use Rattle.jz_verdict.proofs.Listed.{breach_said}
use Rattle.jz_verdict.proofs.saying.said.Goals as goal

pub returns-in-Yes : goal.returns-in-Yes
returns-in-Yes c = c.in_ok-ct.ensures.yes.0 c.in-Yes.is

pub returns-in_ok-listed-in-No : goal.returns-in_ok-listed-in-No
returns-in_ok-listed-in-No c =
    let g = c.args.expanded.now.fun in
    breach_said g (breach_of c.in-No.found) c.in_ok-listed-in-No.listed
    (subst (λ (t : Ct). HasFirstBreach g (told_by t)) c.in-No.is c.in_ok-ct.ensures.breach) c.in_ok-listed-in-No.ensures
