use Rattle.jz_operations.proofs.ByNumbers.{goes_by_numbers}
use Rattle.jz_operations.proofs.laws.accesses_go_by_their_numbers.Goals as goal

pub returns : goal.returns
returns c = λ slots rsp o σ ns e. goes_by_numbers slots rsp o σ ns e
