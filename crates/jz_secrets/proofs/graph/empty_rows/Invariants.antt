use Rattle.std.proofs.Common.{◌≡◌, ◌+◌, ℕ, false, length}
use Rattle.jz_secrets.specs.InnerGraphs.{has, row_at}
use Rattle.jz_secrets.proofs.graph.empty_rows.Given as goal

abbrev pub invariant-loop-row : goal.invariant-loop-row
invariant-loop-row l = (length l.rows.items ≡ l.row + 1) × ((u v : ℕ) → has (row_at l.rows.items u) v ≡ false)
