use Rattle.jz_labels.specs.Operations.{plain_of, tested_by}
use Rattle.jz_labels.specs.ConstantTime.{at_entry}
use Rattle.jz_labels.proofs.OneBreach.{one_breach}
use Rattle.jz_labels.proofs.laws.one_first_breach.Goals as goal

pub returns : goal.returns
returns c = λ params body. one_breach plain_of tested_by (at_entry params) body
