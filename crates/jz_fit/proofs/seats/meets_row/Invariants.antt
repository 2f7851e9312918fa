use Rattle.std.proofs.Common.{ℕ, IsTrue, take}
use Rattle.jz_bits.specs.Has.{has}
use Rattle.jz_ir.specs.Paths.{among}
use Rattle.jz_fit.proofs.seats.meets_row.Given as goal

abbrev pub invariant-loop-spot : goal.invariant-loop-spot
invariant-loop-spot l = (w : ℕ) → IsTrue (among (take l.spot-index l.spot-items) w) → IsTrue (has l.row w) → ⊥
