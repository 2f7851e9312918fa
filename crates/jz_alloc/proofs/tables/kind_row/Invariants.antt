use Rattle.std.proofs.Common.{◌≡◌, ℕ, ◌+◌, ◌/◌, ◌&&◌, length, nat_lt}
use Rattle.jz_bits.specs.Has.{has}
use Rattle.jz_ir.specs.Places.{kind_has}
use Rattle.jz_alloc.proofs.tables.kind_row.Given as goal

abbrev pub invariant-loop-variable : goal.invariant-loop-variable
invariant-loop-variable l = (length l.row ≡ length l.kinds / 64 + 1) × ((v : ℕ) → has l.row v ≡ (nat_lt v l.variable && kind_has l.kinds l.in_use v l.place))
