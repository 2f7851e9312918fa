use Rattle.jz_preconditions.proofs.LeastMeets.{least_meets}
use Rattle.jz_preconditions.proofs.laws.least_arguments_meet.Goals as goal

pub returns : goal.returns
returns c = least_meets
