use Rattle.jz_meaning.proofs.RunLaws.{block_some, fun_some}
use Rattle.jz_meaning.proofs.laws.some_outcome.Goals as goal

pub returns : goal.returns
returns c = record { statements = block_some; functions = fun_some }
