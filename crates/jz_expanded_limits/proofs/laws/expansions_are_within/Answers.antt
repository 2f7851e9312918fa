use Rattle.jz_expanded_limits.proofs.Whole.{expansions_are_within, expansions_are_short}
use Rattle.jz_expanded_limits.proofs.laws.expansions_are_within.Goals as goal

pub returns-clause-within : goal.returns-clause-within
returns-clause-within c = expansions_are_within

pub returns-clause-short : goal.returns-clause-short
returns-clause-short c = expansions_are_short
