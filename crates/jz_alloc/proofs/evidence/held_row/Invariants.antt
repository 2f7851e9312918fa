use Rattle.std.proofs.Common.{◌≡◌, ℕ, ◌+◌, ◌/◌, ◌<◌, ◌↔◌, IsTrue, length, get_or, Some, None}
use Rattle.jz_bits.specs.Has.{has}
use Rattle.jz_alloc.proofs.evidence.held_row.Given as goal

abbrev pub invariant-loop-variable : goal.invariant-loop-variable
invariant-loop-variable l = (length l.row ≡ length l.places / 64 + 1) × ((w : ℕ) → IsTrue (has l.row w) ↔ ((w < l.variable) × (get_or l.places w None ≡ Some l.place)))
