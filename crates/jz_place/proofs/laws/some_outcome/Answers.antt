use Rattle.jz_runs.proofs.Steady.{has_outcome}
use Rattle.jz_placing.specs.Instructions.{instructions}
use Rattle.jz_placing.specs.Variables.{variables}
use Rattle.jz_place.proofs.laws.some_outcome.Goals as goal

pub returns : goal.returns
returns c = record {
  bodies = λ frame t n σ. has_outcome (variables frame) t n σ;
  code = λ t n s. has_outcome instructions t n s;
}
