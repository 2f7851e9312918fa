use Rattle.jz_bodies.proofs.Whole.{bodies_law}
use Rattle.jz_bodies.proofs.laws.bodies_are_typed.Goals as goal

pub returns : goal.returns
returns c = bodies_law
