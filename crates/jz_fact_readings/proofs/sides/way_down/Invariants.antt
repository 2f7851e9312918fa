use Rattle.std.proofs.Common.{◌≡◌, ◌≤◌, ◌+◌}
use Rattle.jz_tree.specs.declared.expr.Expr.{size-Expr}
use Rattle.jz_integers.specs.InnerLeftSides.{left_at}
use Rattle.jz_fact_readings.proofs.sides.way_down.Given as goal

abbrev pub invariant-loop-first : goal.invariant-loop-first
invariant-loop-first l = (l.first ≡ left_at l.steps l.e) × (size-Expr l.first + l.steps ≤ size-Expr l.e) × (l.steps ≤ 4294967296)
