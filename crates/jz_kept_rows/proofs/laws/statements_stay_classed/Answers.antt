use Rattle.jz_kept_rows.proofs.Operations.{values_stay_classed, scalars_stay_classed}
use Rattle.jz_kept_rows.proofs.laws.statements_stay_classed.Goals as goal

pub returns-clause-values : goal.returns-clause-values
returns-clause-values c = values_stay_classed

pub returns-clause-scalars : goal.returns-clause-scalars
returns-clause-scalars c = scalars_stay_classed
