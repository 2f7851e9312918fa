use Rattle.std.proofs.Common.{◌≡◌, ◌<◌, ℕ, length, false}
use Rattle.jz_alloc.specs.Tables.{AllWide, row_has}
use Rattle.jz_fit.proofs.seats.empty_rows.Given as goal

abbrev pub invariant-loop-row : goal.invariant-loop-row
invariant-loop-row l = (length l.made.items ≡ l.row) × AllWide l.count l.made.items × ((i v : ℕ) → i < l.row → row_has l.made.items i v ≡ false)
