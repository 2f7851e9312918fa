use Rattle.jz_expanded_runs.proofs.Followed.{expansions_keep_runs}
use Rattle.jz_expanded_runs.proofs.laws.expansions_keep_runs.Goals as goal

pub returns : goal.returns
returns c = expansions_keep_runs
