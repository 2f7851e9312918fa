use Rattle.jasminc_starts.proofs.Existing.{start_exists}
use Rattle.jasminc_starts.proofs.laws.start_memories_exist.Goals as goal

pub returns : goal.returns
returns c = start_exists
