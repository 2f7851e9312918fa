use Rattle.jz_meaning.proofs.RunLaws.{block_more, fun_more}
use Rattle.jz_meaning.proofs.laws.same_with_more_turns.Goals as goal

pub returns : goal.returns
returns c = record { statements = λ b s n more. block_more b n more s; functions = fun_more }
