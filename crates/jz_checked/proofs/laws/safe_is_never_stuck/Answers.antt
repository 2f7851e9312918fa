use Rattle.jz_checked.proofs.Whole.{safe_never, checked_never}
use Rattle.jz_checked.proofs.laws.safe_is_never_stuck.Goals as goal

pub returns-clause-safe : goal.returns-clause-safe
returns-clause-safe c = safe_never

pub returns-clause-checked : goal.returns-clause-checked
returns-clause-checked c = checked_never
