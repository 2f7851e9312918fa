use Rattle.jz_kept_rows.proofs.Trees.{unrolled_are_classed, scalar_bodies_are_classed}
use Rattle.jz_kept_rows.proofs.laws.bodies_stay_classed.Goals as goal

pub returns-clause-unrolled : goal.returns-clause-unrolled
returns-clause-unrolled c = unrolled_are_classed

pub returns-clause-scalars : goal.returns-clause-scalars
returns-clause-scalars c = scalar_bodies_are_classed
