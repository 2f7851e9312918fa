use Rattle.jz_labels.specs.Operations.{plain_of, tested_by}
use Rattle.jz_labels.specs.ConstantTime.{at_entry}
use Rattle.jz_labels.proofs.Comparing.{labels_no_breach, no_breach_labels}
use Rattle.jz_labels.proofs.laws.labels_or_a_breach.Goals as goal

pub returns-clause-labels : goal.returns-clause-labels
returns-clause-labels c = λ params body. no_breach_labels plain_of tested_by (at_entry params) body

pub returns-clause-none : goal.returns-clause-none
returns-clause-none c = λ params body. labels_no_breach plain_of tested_by (at_entry params) body
