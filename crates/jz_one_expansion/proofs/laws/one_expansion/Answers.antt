use Rattle.jz_one_unrolling.proofs.One.{one_unrolling}
use Rattle.jz_one_expansion.proofs.Expansions.{expansions_same, expansion_plain}
use Rattle.jz_one_expansion.proofs.laws.one_expansion.Goals as goal

pub returns-clause-one : goal.returns-clause-one
returns-clause-one c p f g h k l m n a b = expansions_same one_unrolling p f g h k l m n a b

pub returns-clause-plain : goal.returns-clause-plain
returns-clause-plain c p f g k n a = expansion_plain p f g k n a
