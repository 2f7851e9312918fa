use Rattle.std.proofs.Common.{◌≡◌, ℕ, ◌<◌, ◌&&◌, length, nat_lt}
use Rattle.jz_ir.specs.Order.{has_place}
use Rattle.jz_ir.specs.Places.{op_at}
use Rattle.jz_alloc.specs.Tables.{row_has}
use Rattle.jz_fit.proofs.table.fixed_rows.Given as goal

abbrev pub invariant-loop-place : goal.invariant-loop-place
invariant-loop-place l = (length l.rows.items ≡ l.place) × ((q i : ℕ) → q < l.place → row_has l.rows.items q i ≡ (nat_lt i (length l.ops) && has_place (op_at l.ops i).fixed q))
