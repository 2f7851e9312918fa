use Rattle.jz_integers.proofs.Shifting.{shifts_right}
use Rattle.jz_integers.proofs.laws.exact.Goals as goal

pub returns-clause-right : goal.returns-clause-right
returns-clause-right c = shifts_right
