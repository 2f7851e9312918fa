use Rattle.jz_integers.proofs.Shifting.{divides}
use Rattle.jz_integers.proofs.laws.a_quotient_and_its_remainder.Goals as goal

pub returns-clause-whole : goal.returns-clause-whole
returns-clause-whole c = divides
