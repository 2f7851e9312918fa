use Rattle.jz_kept_limits.proofs.Statements.{operations, conditions}
use Rattle.jz_kept_limits.proofs.laws.operations_stay_within.Goals as goal

pub returns-clause-operations : goal.returns-clause-operations
returns-clause-operations c = operations

pub returns-clause-conditions : goal.returns-clause-conditions
returns-clause-conditions c = conditions
