use Rattle.std.proofs.Common.{◌≡◌, ℕ, ◌<◌, ◌&&◌, length, nat_lt}
use Rattle.jz_ir.specs.Places.{meets}
use Rattle.jz_alloc.specs.Tables.{AllWide, row_has}
use Rattle.jz_alloc.proofs.tables.meets_rows.Given as goal

abbrev pub invariant-loop-place : goal.invariant-loop-place
invariant-loop-place l = (length l.rows.items ≡ l.place) × AllWide (length l.kinds) l.rows.items × ((q v : ℕ) → q < l.place → row_has l.rows.items q v ≡ (nat_lt v (length l.kinds) && meets l.kinds l.in_use l.ops v q))
