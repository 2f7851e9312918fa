use Rattle.std.proofs.lemmas.Slice.Zip.{either_empty_from_Zip}
use Rattle.jz_type_rows.proofs.Steps.{one_ended}
use Rattle.jz_type_rows.proofs.pairs.pairs.Goals as goal

pub returns : goal.returns
returns g c = one_ended _ _ _ _ (either_empty_from_Zip c.loop-left.left-iterator c.next.new.self c.next.result c.in-None.is c.next.ensures.steps) c.loop-left.invariant
