use Rattle.jz_runs.proofs.Steady.{one_outcome}
use Rattle.jz_placing.specs.Instructions.{instructions}
use Rattle.jz_placing.specs.Variables.{variables}
use Rattle.jz_place.proofs.laws.one_outcome.Goals as goal

pub returns : goal.returns
returns c = record {
  bodies = λ frame t n σ o p g h. one_outcome (variables frame) g h;
  code = λ t n s o p g h. one_outcome instructions g h;
}
