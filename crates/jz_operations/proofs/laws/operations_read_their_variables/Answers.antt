use Rattle.jz_operations.proofs.OwnVariables.{reads_only}
use Rattle.jz_operations.proofs.laws.operations_read_their_variables.Goals as goal

pub returns : goal.returns
returns c = λ frame o σ τ h f. reads_only frame σ τ h.left h.flags h.cells h.memory o f
