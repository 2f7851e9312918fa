use Rattle.std.proofs.Common.{ℕ, ◌<◌}
use Rattle.jz_fit.specs.InnerSeats.{IsOpen}
use Rattle.jz_fit.proofs.seats.first_open.Given as goal

abbrev pub invariant-loop-place : goal.invariant-loop-place
invariant-loop-place l = (p : ℕ) → p < l.place → IsOpen l.table l.spots l.seats l.variable p → ⊥
