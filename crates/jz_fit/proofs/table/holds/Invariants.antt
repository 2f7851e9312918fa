use Rattle.std.proofs.Common.{◌≡◌, take, false}
use Rattle.jz_ir.specs.Order.{has_place}
use Rattle.jz_fit.proofs.table.holds.Given as goal

abbrev pub invariant-loop-one : goal.invariant-loop-one
invariant-loop-one l = has_place (take l.one-index l.places) l.place ≡ false
