use Rattle.jz_required.proofs.Exact.{secret_is, breach_is, test_is, left_is, operation_is, value_is}
use Rattle.jz_required.proofs.laws.readings_are_exact.Goals as goal

pub returns-clause-secrets : goal.returns-clause-secrets
returns-clause-secrets c = secret_is

pub returns-clause-breaches : goal.returns-clause-breaches
returns-clause-breaches c = breach_is

pub returns-clause-tests : goal.returns-clause-tests
returns-clause-tests c = test_is

pub returns-clause-lefts : goal.returns-clause-lefts
returns-clause-lefts c = left_is

pub returns-clause-operations : goal.returns-clause-operations
returns-clause-operations c = operation_is

pub returns-clause-values : goal.returns-clause-values
returns-clause-values c = value_is
