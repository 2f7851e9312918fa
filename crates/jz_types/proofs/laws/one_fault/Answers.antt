use Rattle.jz_types.specs.Rules.{Breaks}
use Rattle.jz_types.proofs.Telling.{one_told}
use Rattle.jz_types.proofs.laws.one_fault.Goals as goal

pub returns : goal.returns
returns c = λ p f g h k. one_told (Breaks p) f g h k
