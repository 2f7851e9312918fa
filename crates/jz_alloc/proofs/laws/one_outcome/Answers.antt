use Rattle.jz_alloc.proofs.Seating.{one_out}
use Rattle.jz_alloc.proofs.laws.one_outcome.Goals as goal

pub returns : goal.returns
returns c = λ code first second f g. one_out _ _ _ f g
