use Rattle.std.proofs.Common.{◌≡◌, ℕ, ◌&&◌, length, nat_lt, ◌+◌, ◌/◌}
use Rattle.jz_bits.specs.Has.{has}
use Rattle.jz_ir.specs.Order.{has_place}
use Rattle.jz_ir.specs.Places.{op_at}
use Rattle.jz_fit.proofs.table.fixed_row.Given as goal

abbrev pub invariant-loop-i : goal.invariant-loop-i
invariant-loop-i l = (length l.row ≡ length l.ops / 64 + 1) × ((k : ℕ) → has l.row k ≡ (nat_lt k l.i && has_place (op_at l.ops k).fixed l.place))
