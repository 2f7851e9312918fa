use Rattle.jz_stuck_runs.proofs.Sizes.{size_law}
use Rattle.jz_stuck_runs.proofs.laws.instructions_have_a_size.Goals as goal

pub returns : goal.returns
returns c = size_law
