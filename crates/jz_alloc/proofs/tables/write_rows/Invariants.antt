use Rattle.std.proofs.Common.{◌≡◌, ℕ, ◌<◌, length}
use Rattle.jz_alloc.specs.Tables.{any_below, reaches, AllWide, row_has}
use Rattle.jz_alloc.proofs.tables.write_rows.Given as goal

abbrev pub invariant-loop-i : goal.invariant-loop-i
invariant-loop-i l = (length l.rows.items ≡ l.count) × AllWide l.count l.rows.items × ((u v : ℕ) → u < l.count → row_has l.rows.items u v ≡ any_below l.i (λ i. reaches l.ops l.after i u v))
