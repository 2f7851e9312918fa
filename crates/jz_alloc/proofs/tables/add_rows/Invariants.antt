use Rattle.std.proofs.Common.{◌≡◌, ℕ, ◌<◌, ◌||◌, ◌&&◌, length, take}
use Rattle.std.specs.List.{All}
use Rattle.jz_bits.specs.Has.{has}
use Rattle.jz_ir.specs.Paths.{among}
use Rattle.jz_alloc.specs.Tables.{row_has}
use Rattle.jz_alloc.proofs.tables.add_rows.Given as goal

abbrev pub invariant-loop-written : goal.invariant-loop-written
invariant-loop-written l = (length l.rows.items ≡ length l.fn.rows.items) × All (λ r. length r ≡ length l.row) l.rows.items × ((u v : ℕ) → u < length l.fn.rows.items → row_has l.rows.items u v ≡ (row_has l.fn.rows.items u v || (among (take l.written-index l.written-items) u && has l.row v)))
