use Rattle.std.proofs.Common.{◌≡◌, ◌≤◌}
use Rattle.jz_tree.specs.declared.expr.Expr.{size-Expr}
use Rattle.jz_tree.specs.LeftSides.{on_left}
use Rattle.jz_arrays.specs.Cells.{with_scalars}
use Rattle.jz_scalars.proofs.expressions.+scalars.Given as goal

abbrev pub invariant-side_with_scalars-loop-rest : goal.invariant-side_with_scalars-loop-rest
invariant-side_with_scalars-loop-rest l =
    (on_left l.steps.items (with_scalars l.rest) ≡ with_scalars l.expr)
    × (size-Expr l.rest ≤ size-Expr l.expr)
