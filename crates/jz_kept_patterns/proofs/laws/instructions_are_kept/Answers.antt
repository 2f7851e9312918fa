use Rattle.jz_kept_patterns.proofs.Whole.{copies_keep_instructions, values_keep_instructions, scalars_keep_instructions}
use Rattle.jz_kept_patterns.proofs.laws.instructions_are_kept.Goals as goal

pub returns-clause-copies : goal.returns-clause-copies
returns-clause-copies c = copies_keep_instructions

pub returns-clause-values : goal.returns-clause-values
returns-clause-values c = values_keep_instructions

pub returns-clause-scalars : goal.returns-clause-scalars
returns-clause-scalars c = scalars_keep_instructions
