use Rattle.jz_typed_runs.proofs.Runs.{reached, ends}
use Rattle.jz_typed_runs.proofs.laws.runs_of_typed_programs_keep_kinds.Goals as goal

pub returns : goal.returns
returns c = record { reached = reached; ends = ends }
