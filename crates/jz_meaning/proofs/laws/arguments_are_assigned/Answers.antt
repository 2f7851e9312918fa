use Rattle.jz_meaning.proofs.CallLemmas.{arguments_assigned}
use Rattle.jz_meaning.proofs.laws.arguments_are_assigned.Goals as goal

pub returns : goal.returns
returns c = arguments_assigned
