use Rattle.jz_placing.specs.Instructions.{instructions}
use Rattle.jz_placing.specs.Variables.{variables}
use Rattle.jz_place.proofs.OneRun.{with_turns}
use Rattle.jz_place.proofs.laws.same_with_more_turns.Goals as goal

pub returns : goal.returns
returns c = record {
  bodies = λ frame t σ n more o g over. with_turns (variables frame) t n more σ o g over;
  code = λ t s n more o g over. with_turns instructions t n more s o g over;
}
