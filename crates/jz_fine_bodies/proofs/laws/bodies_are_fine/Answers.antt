use Rattle.jz_fine_bodies.proofs.Whole.{bodies_are_fine}
use Rattle.jz_fine_bodies.proofs.laws.bodies_are_fine.Goals as goal

pub returns : goal.returns
returns c = bodies_are_fine
