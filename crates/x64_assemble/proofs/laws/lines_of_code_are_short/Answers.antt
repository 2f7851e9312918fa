use Rattle.x64_assemble.proofs.Short.{linear_short, few_labels}
use Rattle.x64_assemble.proofs.laws.lines_of_code_are_short.Goals as goal

pub returns-clause-bytes : goal.returns-clause-bytes
returns-clause-bytes c = linear_short

pub returns-clause-labels : goal.returns-clause-labels
returns-clause-labels c = few_labels
