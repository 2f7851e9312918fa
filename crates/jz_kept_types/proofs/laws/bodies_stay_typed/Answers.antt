use Rattle.jz_kept_types.proofs.Trees.{unrolled_stay, scalar_bodies_stay}
use Rattle.jz_kept_types.proofs.laws.bodies_stay_typed.Goals as goal

pub returns-clause-unrolled : goal.returns-clause-unrolled
returns-clause-unrolled c = unrolled_stay

pub returns-clause-scalars : goal.returns-clause-scalars
returns-clause-scalars c = scalar_bodies_stay
