use Rattle.jz_flag_runs.proofs.Whole.{flags_go, flag_tests_go, flags_many}
use Rattle.jz_flag_runs.proofs.laws.flag_rows_keep_runs.Goals as goal

pub returns-clause-statements : goal.returns-clause-statements
returns-clause-statements c = λ places home o os items met l frame s t σ ns homing h run. flags_go places home o os items met l frame s t σ ns homing h run

pub returns-clause-tests : goal.returns-clause-tests
returns-clause-tests c = λ home t a i l frame s σ ns z homing h run. flag_tests_go home t a i l frame s σ ns z homing h run

pub returns-clause-items : goal.returns-clause-items
returns-clause-items c = λ home o os items l. flags_many home o os items l
