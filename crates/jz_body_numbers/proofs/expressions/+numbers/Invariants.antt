use Rattle.std.proofs.Common.{◌≡◌, ◌≤◌, ◌++◌}
use Rattle.jz_tree.specs.declared.expr.Expr.{size-Expr}
use Rattle.jz_body_numbers.specs.Numbers.{of_expr}
use Rattle.jz_body_numbers.proofs.expressions.+numbers.Given as goal

abbrev pub invariant-add_expr-loop-rest : goal.invariant-add_expr-loop-rest
invariant-add_expr-loop-rest l =
    (l.out.items ++ of_expr l.rest ≡ l.fn.out.items ++ of_expr l.e)
    × (size-Expr l.rest ≤ size-Expr l.e)
