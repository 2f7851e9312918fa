use Rattle.std.proofs.Common.{◌≡◌, take, false}
use Rattle.jz_ir.specs.Paths.{among}
use Rattle.jz_fit.proofs.spots.is_among.Given as goal

abbrev pub invariant-loop-other : goal.invariant-loop-other
invariant-loop-other l = among (take l.other-index l.other-items) l.variable ≡ false
