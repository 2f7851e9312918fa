use Rattle.std.proofs.Common.{◌≡◌, ◌≤◌, ◌↔◌}
use Rattle.jz_tree.specs.declared.expr.Expr.{size-Expr}
use Rattle.jz_tree.proofs.expr.+same.Given as goal

abbrev pub invariant-Expr::same-loop-a : goal.invariant-Expr::same-loop-a
invariant-Expr::same-loop-a l = ((l.self ≡ l.other) ↔ (l.a ≡ l.b)) × (size-Expr l.a ≤ size-Expr l.self)
