use Rattle.jz_expanded_numbers.proofs.Expansions.{one_numbers}
use Rattle.jz_expanded_numbers.proofs.laws.numbers_of_expansions.Goals as goal

pub returns : goal.returns
returns c = one_numbers
