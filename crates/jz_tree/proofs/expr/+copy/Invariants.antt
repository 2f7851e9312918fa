use Rattle.std.proofs.Common.{◌≡◌, ◌≤◌}
use Rattle.jz_tree.specs.declared.expr.Expr.{size-Expr}
use Rattle.jz_tree.specs.LeftSides.{on_left}
use Rattle.jz_tree.proofs.expr.+copy.Given as goal

abbrev pub invariant-Expr::copy_side-loop-rest : goal.invariant-Expr::copy_side-loop-rest
invariant-Expr::copy_side-loop-rest l = (on_left l.steps.items l.rest ≡ l.self) × (size-Expr l.rest ≤ size-Expr l.self)
