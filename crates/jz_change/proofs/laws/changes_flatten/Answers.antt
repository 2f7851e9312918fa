use Rattle.jz_change.proofs.FlatEvents.{flattens}
use Rattle.jz_change.proofs.laws.changes_flatten.Goals as goal

pub returns : goal.returns
returns c = flattens
