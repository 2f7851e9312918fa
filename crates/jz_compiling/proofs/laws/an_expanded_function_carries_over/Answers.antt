use Rattle.jz_compiling.proofs.Expanded.{carries_over}
use Rattle.jz_compiling.proofs.laws.an_expanded_function_carries_over.Goals as goal

pub returns : goal.returns
returns c = λ p f g k comp of_program head expansion m plain safe. carries_over p f g k comp of_program head expansion m plain safe
