use Rattle.jz_fact_runs.proofs.Safe.{bodies_go, safe_goes}
use Rattle.jz_fact_runs.proofs.laws.safe_is_never_stuck.Goals as goal

pub returns-clause-bodies : goal.returns-clause-bodies
returns-clause-bodies c = bodies_go

pub returns-clause-functions : goal.returns-clause-functions
returns-clause-functions c = safe_goes
