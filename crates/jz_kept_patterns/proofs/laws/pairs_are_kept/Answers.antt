use Rattle.jz_kept_patterns.proofs.Whole.{copies_keep_pairs, values_keep_pairs, scalars_keep_pairs}
use Rattle.jz_kept_patterns.proofs.laws.pairs_are_kept.Goals as goal

pub returns-clause-copies : goal.returns-clause-copies
returns-clause-copies c = copies_keep_pairs

pub returns-clause-values : goal.returns-clause-values
returns-clause-values c = values_keep_pairs

pub returns-clause-scalars : goal.returns-clause-scalars
returns-clause-scalars c = scalars_keep_pairs
