use Rattle.jz_kept_patterns.proofs.Whole.{copies_keep_patterns, values_keep_patterns, scalars_keep_patterns}
use Rattle.jz_kept_patterns.proofs.laws.patterns_are_kept.Goals as goal

pub returns-clause-copies : goal.returns-clause-copies
returns-clause-copies c = copies_keep_patterns

pub returns-clause-values : goal.returns-clause-values
returns-clause-values c = values_keep_patterns

pub returns-clause-scalars : goal.returns-clause-scalars
returns-clause-scalars c = scalars_keep_patterns
