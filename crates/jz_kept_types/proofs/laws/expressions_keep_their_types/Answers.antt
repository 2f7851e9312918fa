use Rattle.jz_kept_types.proofs.Whole.{values_keep, scalars_keep}
use Rattle.jz_kept_types.proofs.laws.expressions_keep_their_types.Goals as goal

pub returns-clause-values : goal.returns-clause-values
returns-clause-values c = values_keep

pub returns-clause-scalars : goal.returns-clause-scalars
returns-clause-scalars c = scalars_keep
