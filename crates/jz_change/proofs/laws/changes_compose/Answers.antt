use Rattle.jz_change.proofs.Composition.{composes}
use Rattle.jz_change.proofs.laws.changes_compose.Goals as goal

pub returns : goal.returns
returns c = composes
