use Rattle.jz_meaning.proofs.RunLaws.{block_one, fun_one}
use Rattle.jz_meaning.proofs.laws.one_outcome.Goals as goal

pub returns : goal.returns
returns c = record { statements = block_one; functions = fun_one }
