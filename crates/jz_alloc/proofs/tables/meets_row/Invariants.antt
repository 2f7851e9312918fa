use Rattle.std.proofs.Common.{◌≡◌, ℕ, ◌+◌, ◌/◌, ◌&&◌, length, take, nat_lt}
use Rattle.std.specs.List.{list_all}
use Rattle.jz_bits.specs.Has.{has}
use Rattle.jz_ir.specs.Places.{kind_has, op_fits}
use Rattle.jz_alloc.proofs.tables.meets_row.Given as goal

abbrev pub invariant-loop-op : goal.invariant-loop-op
invariant-loop-op l = (length l.row ≡ length l.kinds / 64 + 1) × ((v : ℕ) → has l.row v ≡ (nat_lt v (length l.kinds) && (kind_has l.kinds l.in_use v l.place && list_all (op_fits v l.place) (take l.op-index l.ops))))
