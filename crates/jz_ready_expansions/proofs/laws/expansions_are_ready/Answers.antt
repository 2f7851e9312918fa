use Rattle.jz_ready_expansions.proofs.Whole.{expansions_are_ready}
use Rattle.jz_ready_expansions.proofs.laws.expansions_are_ready.Goals as goal

pub returns : goal.returns
returns c = expansions_are_ready
