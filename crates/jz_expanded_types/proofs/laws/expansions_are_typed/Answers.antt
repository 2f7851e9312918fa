use Rattle.jz_expanded_types.proofs.Expanded.{expansions_are_typed}
use Rattle.jz_expanded_types.proofs.laws.expansions_are_typed.Goals as goal

pub returns : goal.returns
returns c = expansions_are_typed
