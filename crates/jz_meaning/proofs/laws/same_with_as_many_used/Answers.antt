use Rattle.jz_meaning.proofs.RunLaws.{block_used, fun_used}
use Rattle.jz_meaning.proofs.laws.same_with_as_many_used.Goals as goal

pub returns : goal.returns
returns c = record { statements = λ b s n m. block_used b n m s; functions = fun_used }
