use Rattle.jz_drawn_bodies.proofs.Choosing.{choice_drawn}
use Rattle.jz_drawn_bodies.proofs.laws.arms_are_drawn.Goals as goal

pub returns : goal.returns
returns c = λ q f g v va vb vc base n da db re e. choice_drawn q f g v va vb vc base n da db re e.is e.same
