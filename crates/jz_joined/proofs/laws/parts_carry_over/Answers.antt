use Rattle.jz_joined.proofs.Joining.{carries}
use Rattle.jz_joined.proofs.laws.parts_carry_over.Goals as goal

pub returns : goal.returns
returns c = carries
