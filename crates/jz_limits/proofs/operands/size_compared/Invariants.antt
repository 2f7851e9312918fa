use Rattle.std.proofs.Common.{◌≡◌, ◌≤◌}
use Rattle.jz_tree.specs.declared.expr.Expr.{size-Expr}
use Rattle.jz_limits.specs.Asked.{size_compared}
use Rattle.jz_limits.proofs.operands.size_compared.Given as goal

abbrev pub invariant-loop-rest : goal.invariant-loop-rest
invariant-loop-rest l =
    (size_compared l.rest ≡ size_compared l.expr) × (size-Expr l.rest ≤ size-Expr l.expr)
