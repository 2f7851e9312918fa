use Rattle.jz_expanded_classes.proofs.Whole.{expansions_are_classed}
use Rattle.jz_expanded_classes.proofs.laws.expansions_are_classed.Goals as goal

pub returns : goal.returns
returns c = expansions_are_classed
