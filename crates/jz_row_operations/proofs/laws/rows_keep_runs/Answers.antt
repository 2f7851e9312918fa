use Rattle.jz_row_operations.proofs.HasItems.{lowers_many}
use Rattle.jz_row_operations.proofs.Known.{op_goes, loop_test_goes}
use Rattle.jz_row_operations.proofs.laws.rows_keep_runs.Goals as goal

pub returns-clause-statements : goal.returns-clause-statements
returns-clause-statements c = λ home o os items l frame s t σ ns homing h run. op_goes frame home homing o os items s t σ ns l h run

pub returns-clause-tests : goal.returns-clause-tests
returns-clause-tests c = λ home t a i l frame s σ ns z homing h run. loop_test_goes frame home homing t a i s σ ns z l h run

pub returns-clause-items : goal.returns-clause-items
returns-clause-items c = λ home o os items l. lowers_many home o os items l
