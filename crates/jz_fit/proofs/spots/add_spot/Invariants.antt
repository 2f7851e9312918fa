use Rattle.std.proofs.Common.{◌≡◌, ℕ, ◌<◌, ◌||◌, ◌&&◌, take, length, nat_eq}
use Rattle.jz_ir.specs.Paths.{among}
use Rattle.jz_fit.specs.InnerSpots.{list_at}
use Rattle.jz_fit.proofs.spots.add_spot.Given as goal

abbrev pub invariant-loop-variable : goal.invariant-loop-variable
invariant-loop-variable l = (length l.lists.items ≡ length l.fn.lists.items) × ((v i : ℕ) → v < length l.fn.lists.items → among (list_at l.lists.items v) i ≡ (among (list_at l.fn.lists.items v) i || (among (take l.variable-index l.variable-items) v && nat_eq l.spot i)))
