use Rattle.jz_flag_rows.proofs.Apart.{statements_apart, tests_apart}
use Rattle.jz_flag_rows.proofs.laws.rows_are_apart.Goals as goal

pub returns-clause-statements : goal.returns-clause-statements
returns-clause-statements c = statements_apart

pub returns-clause-tests : goal.returns-clause-tests
returns-clause-tests c = tests_apart
