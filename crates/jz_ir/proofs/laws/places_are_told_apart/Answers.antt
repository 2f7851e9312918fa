use Rattle.jz_ir.proofs.Numbers.{one_place}
use Rattle.jz_ir.proofs.laws.places_are_told_apart.Goals as goal

pub returns : goal.returns
returns c = one_place
