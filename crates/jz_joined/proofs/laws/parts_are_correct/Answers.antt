use Rattle.jz_joined.proofs.Whole.{correct_as_made}
use Rattle.jz_joined.proofs.laws.parts_are_correct.Goals as goal

pub returns : goal.returns
returns c = correct_as_made
