use Rattle.std.proofs.Common.{◌≤◌}
use Rattle.jz_tree.specs.declared.expr.Expr.{size-Expr}
use Rattle.jz_tree.proofs.+drop.Given as goal

abbrev pub invariant-expr::Expr::drop-loop-self : goal.invariant-expr::Expr::drop-loop-self
invariant-expr::Expr::drop-loop-self l = size-Expr l.self ≤ size-Expr l.initial.self
