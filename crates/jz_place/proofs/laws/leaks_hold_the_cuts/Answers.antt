use Rattle.jz_runs.proofs.Held.{held}
use Rattle.jz_placing.specs.Instructions.{instructions}
use Rattle.jz_placing.specs.Variables.{variables}
use Rattle.jz_place.proofs.laws.leaks_hold_the_cuts.Goals as goal

pub returns : goal.returns
returns c = record {
  bodies = λ frame t n σ o g. held (variables frame) g;
  code = λ t n s o g. held instructions g;
}
