use Rattle.std.proofs.Common.{◌≡◌, ℕ, ◌<◌, ◌&&◌, not, length, nat_lt}
use Rattle.jz_ir.specs.Paths.{among}
use Rattle.jz_ir.specs.Places.{op_at}
use Rattle.jz_fit.specs.InnerSpots.{list_at}
use Rattle.jz_fit.proofs.spots.cross_lists.Given as goal

abbrev pub invariant-loop-i : goal.invariant-loop-i
invariant-loop-i l = (length l.lists.items ≡ l.count) × ((v i : ℕ) → v < l.count → among (list_at l.lists.items v) i ≡ (nat_lt i l.i && (not (among (op_at l.ops i).writes v) && among (list_at l.after i) v)))
