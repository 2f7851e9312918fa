use Rattle.jz_drawn_bodies.proofs.Judging.{breach_law}
use Rattle.jz_drawn_bodies.proofs.laws.first_asked_is_first_breach.Goals as goal

pub returns : goal.returns
returns c = breach_law
