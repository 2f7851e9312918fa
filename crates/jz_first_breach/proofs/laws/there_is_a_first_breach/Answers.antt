use Rattle.jz_labels.specs.Operations.{plain_of, tested_by}
use Rattle.jz_labels.specs.ConstantTime.{at_entry}
use Rattle.jz_first_breach.proofs.Arrays.{answer}
use Rattle.jz_first_breach.proofs.laws.there_is_a_first_breach.Goals as goal

pub returns : goal.returns
returns c = λ params body whole. answer plain_of tested_by (at_entry params) body whole
