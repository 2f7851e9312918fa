use Rattle.jz_stuck_runs.proofs.Whole.{part_law, run_law}
use Rattle.jz_stuck_runs.proofs.laws.stuck_runs_lack_a_value.Goals as goal

pub returns : goal.returns
returns c = record { parts = part_law; runs = run_law }
