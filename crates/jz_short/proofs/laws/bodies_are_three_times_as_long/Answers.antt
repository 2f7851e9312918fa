use Rattle.jz_short.proofs.Thrice.{thrice}
use Rattle.jz_short.proofs.laws.bodies_are_three_times_as_long.Goals as goal

pub returns : goal.returns
returns c = λ home b u k h. thrice home b u k h
