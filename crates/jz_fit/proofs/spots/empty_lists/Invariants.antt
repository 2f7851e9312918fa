use Rattle.std.proofs.Common.{◌≡◌, ℕ, ◌<◌, length, false}
use Rattle.jz_ir.specs.Paths.{among}
use Rattle.jz_fit.specs.InnerSpots.{list_at}
use Rattle.jz_fit.proofs.spots.empty_lists.Given as goal

abbrev pub invariant-loop-row : goal.invariant-loop-row
invariant-loop-row l = (length l.made.items ≡ l.row) × ((v i : ℕ) → v < l.row → among (list_at l.made.items v) i ≡ false)
