use Rattle.std.proofs.Common.{◌≡◌, ℕ, length, ◌||◌, take}
use Rattle.jz_bits.specs.Has.{has}
use Rattle.jz_ir.specs.Paths.{among}
use Rattle.jz_fit.proofs.seats.add_spots.Given as goal

abbrev pub invariant-loop-spot : goal.invariant-loop-spot
invariant-loop-spot l = (length l.row ≡ length l.fn.row) × ((w : ℕ) → has l.row w ≡ (among (take l.spot-index l.spot-items) w || has l.fn.row w))
