use Rattle.std.proofs.Common.{◌≡◌, ℕ, ◌<◌, length}
use Rattle.jz_alloc.specs.Tables.{any_below, is_taken, AllWide, row_has}
use Rattle.jz_alloc.proofs.tables.taken_rows.Given as goal

abbrev pub invariant-loop-place : goal.invariant-loop-place
invariant-loop-place l = (length l.rows.items ≡ l.place) × AllWide l.count l.rows.items × ((q v : ℕ) → q < l.place → row_has l.rows.items q v ≡ any_below (length l.ops) (λ i. is_taken l.ops l.after i v q))
