use Rattle.jz_function_runs.proofs.Carrying.{one_run, some_run}
use Rattle.jz_function_runs.proofs.laws.bodies_have_one_run.Goals as goal

pub returns : goal.returns
returns c = record { one = one_run; some = some_run }
