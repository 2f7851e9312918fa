use Rattle.jz_first_alarm.proofs.Stepping.{handed_on}
use Rattle.jz_first_alarm.proofs.Whole.{none_left, one_left}
use Rattle.jz_first_alarm.proofs.asking.ask_single.Goals as goal

pub returns-in_err-refuse-clause-some : goal.returns-in_err-refuse-clause-some
returns-in_err-refuse-clause-some c =
    handed_on c.from_residual-in_err-refuse.result c.in_err-refuse.field-0.0 _ _ c.from_residual-in_err-refuse.ensures.1
    (λ v h at. one_left c.in_ok-found.found _ v (c.in_ok-found.ensures at) h) c.in_err-refuse.ensures.some

pub returns-clause-none : goal.returns-clause-none
returns-clause-none c at = none_left c.in_ok-found.found _ (c.in_ok-found.ensures at) c.in_ok-refuse.ensures.none
