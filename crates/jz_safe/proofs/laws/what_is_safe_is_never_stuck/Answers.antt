use Rattle.jz_safe.proofs.Runs.{expanded_runs_on, safe_runs_on, source_runs_on}
use Rattle.jz_safe.proofs.laws.what_is_safe_is_never_stuck.Goals as goal

pub returns-clause-expanded : goal.returns-clause-expanded
returns-clause-expanded c = expanded_runs_on

pub returns-clause-compiled : goal.returns-clause-compiled
returns-clause-compiled c = safe_runs_on

pub returns-clause-source : goal.returns-clause-source
returns-clause-source c = source_runs_on
