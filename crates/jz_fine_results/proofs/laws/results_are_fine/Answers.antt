use Rattle.jz_fine_results.proofs.Pairs.{pairs_are_fine}
use Rattle.jz_fine_results.proofs.Instructions.{instructions_are_fine}
use Rattle.jz_fine_results.proofs.laws.results_are_fine.Goals as goal

pub returns-clause-pairs : goal.returns-clause-pairs
returns-clause-pairs c = pairs_are_fine

pub returns-clause-instructions : goal.returns-clause-instructions
returns-clause-instructions c = instructions_are_fine
