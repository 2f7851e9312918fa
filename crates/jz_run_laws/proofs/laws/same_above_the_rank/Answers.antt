use Rattle.jz_run_laws.proofs.Deepening.{same_above}
use Rattle.jz_run_laws.proofs.laws.same_above_the_rank.Goals as goal

pub returns : goal.returns
returns c = same_above
