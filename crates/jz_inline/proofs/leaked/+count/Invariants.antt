use Rattle.std.proofs.Common.{◌≡◌, ◌≤◌}
use Rattle.jz_tree.specs.declared.expr.Expr.{size-Expr}
use Rattle.jz_inline.specs.Widths.{declared_shape}
use Rattle.jz_inline.specs.InnerWidths.{counted_left, counted_of}
use Rattle.jz_inline.proofs.leaked.+count.Given as goal

abbrev pub invariant-count_side-loop-rest : goal.invariant-count_side-loop-rest
invariant-count_side-loop-rest l =
    (counted_left l.operands.items (counted_of (declared_shape l.rest)) ≡ counted_of (declared_shape l.expr))
    × (size-Expr l.rest ≤ size-Expr l.expr)
