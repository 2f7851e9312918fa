use Rattle.jz_kept_types.proofs.Whole.{values_stay, scalars_stay}
use Rattle.jz_kept_types.proofs.laws.assignments_stay_typed.Goals as goal

pub returns-clause-values : goal.returns-clause-values
returns-clause-values c = values_stay

pub returns-clause-scalars : goal.returns-clause-scalars
returns-clause-scalars c = scalars_stay
