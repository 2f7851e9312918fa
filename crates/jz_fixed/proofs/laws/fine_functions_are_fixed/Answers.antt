use Rattle.jz_fixed.proofs.FixedBodies.{bodies_fixed, function_fixed}
use Rattle.jz_fixed.proofs.laws.fine_functions_are_fixed.Goals as goal

pub returns-clause-bodies : goal.returns-clause-bodies
returns-clause-bodies c = λ kinds in_frame b h. bodies_fixed kinds in_frame b h

pub returns-clause-functions : goal.returns-clause-functions
returns-clause-functions c = λ kinds in_frame f b p h. function_fixed kinds in_frame f b p h
