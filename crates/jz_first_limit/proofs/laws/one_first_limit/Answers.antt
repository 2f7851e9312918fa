use Rattle.jz_first_limit.proofs.Answering.{one_answer, some_answer}
use Rattle.jz_first_limit.proofs.laws.one_first_limit.Goals as goal

pub returns-clause-one : goal.returns-clause-one
returns-clause-one c = one_answer

pub returns-clause-some : goal.returns-clause-some
returns-clause-some c = some_answer
