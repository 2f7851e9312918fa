use Rattle.jz_expanded_patterns.proofs.Whole.{expansions_have_patterns}
use Rattle.jz_expanded_patterns.proofs.laws.expansions_have_patterns.Goals as goal

pub returns : goal.returns
returns c = expansions_have_patterns
