use Rattle.jz_told_numbers.proofs.Told.{scalars_tell, rounds_tell}
use Rattle.jz_told_numbers.proofs.laws.passes_tell_all_numbers.Goals as goal

pub returns-clause-scalars : goal.returns-clause-scalars
returns-clause-scalars c = scalars_tell

pub returns-clause-rounds : goal.returns-clause-rounds
returns-clause-rounds c = rounds_tell
