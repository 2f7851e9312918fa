use Rattle.jz_run_laws.proofs.Nodes.{operations_keep, marks_keep}
use Rattle.jz_run_laws.proofs.kind_laws.operations_keep_kinds.Goals as goal

pub returns : goal.returns
returns c = record { operations = operations_keep; marks = marks_keep }
