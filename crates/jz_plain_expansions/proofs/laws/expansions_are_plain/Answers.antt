use Rattle.jz_plain_expansions.proofs.Whole.{expansions_are_plain}
use Rattle.jz_plain_expansions.proofs.laws.expansions_are_plain.Goals as goal

pub returns : goal.returns
returns c = expansions_are_plain
