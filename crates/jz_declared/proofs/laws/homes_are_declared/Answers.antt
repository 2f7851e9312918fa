use Rattle.jz_declared.proofs.Places.{of_declarations}
use Rattle.jz_declared.proofs.laws.homes_are_declared.Goals as goal

pub returns : goal.returns
returns c = λ f differ. of_declarations f differ
