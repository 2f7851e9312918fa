use Rattle.jz_meaning.proofs.ShapeLemmas.{counted, same_count}
use Rattle.jz_meaning.proofs.laws.numbers_of_an_expression.Goals as goal

pub returns : goal.returns
returns c = record { count = counted; same = same_count }
