use Rattle.jz_one_unrolling.proofs.One.{one_unrolling}
use Rattle.jz_one_unrolling.proofs.laws.one_unrolling.Goals as goal

pub returns : goal.returns
returns c names known t u v k l h = one_unrolling names known t u v k l h
