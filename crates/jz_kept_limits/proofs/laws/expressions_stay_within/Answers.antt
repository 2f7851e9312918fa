use Rattle.jz_kept_limits.proofs.Scalars.{expressions}
use Rattle.jz_kept_limits.proofs.laws.expressions_stay_within.Goals as goal

pub returns : goal.returns
returns c = expressions
