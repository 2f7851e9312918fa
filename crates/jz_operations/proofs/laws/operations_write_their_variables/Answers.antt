use Rattle.jz_operations.proofs.OwnVariables.{writes_only}
use Rattle.jz_operations.proofs.laws.operations_write_their_variables.Goals as goal

pub returns : goal.returns
returns c = λ frame o σ d v e h. writes_only frame o σ d v e h
