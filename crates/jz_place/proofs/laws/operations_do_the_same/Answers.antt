use Rattle.jz_place.proofs.SameSteps.{does_the_same}
use Rattle.jz_place.proofs.laws.operations_do_the_same.Goals as goal

pub returns : goal.returns
returns c = λ frame o σ τ behind ns beside reads e. does_the_same frame o σ τ beside reads behind ns e
