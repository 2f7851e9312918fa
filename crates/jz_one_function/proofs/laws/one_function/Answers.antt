use Rattle.jz_one_function.proofs.Bodies.{one_function}
use Rattle.jz_one_function.proofs.laws.one_function.Goals as goal

pub returns : goal.returns
returns c = λ home arguments results f b l m j k h g. one_function home arguments results f b l m j k h g
