use Rattle.std.proofs.Common.{◌≡◌, ℕ, ◌+◌, ◌/◌, length}
use Rattle.jz_bits.specs.Has.{has}
use Rattle.jz_alloc.specs.Tables.{any_below, is_taken}
use Rattle.jz_alloc.proofs.tables.taken_row.Given as goal

abbrev pub invariant-loop-i : goal.invariant-loop-i
invariant-loop-i l = (length l.row ≡ l.count / 64 + 1) × ((v : ℕ) → has l.row v ≡ any_below l.i (λ i. is_taken l.ops l.after i v l.place))
