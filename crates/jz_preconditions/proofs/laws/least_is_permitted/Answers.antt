use Rattle.jz_preconditions.proofs.Leasts.{least_permitted_is}
use Rattle.jz_preconditions.proofs.laws.least_is_permitted.Goals as goal

pub returns : goal.returns
returns c = least_permitted_is
