use Rattle.std.proofs.Common.{◌≡◌, ◌≤◌}
use Rattle.jz_tree.specs.declared.expr.Expr.{size-Expr}
use Rattle.jz_resolve.specs.Resolving.{expr_with}
use Rattle.jz_tree.specs.LeftSides.{on_left}
use Rattle.jz_resolve.proofs.expressions.+resolve.Given as goal

abbrev pub invariant-resolve_side-loop-rest : goal.invariant-resolve_side-loop-rest
invariant-resolve_side-loop-rest g l =
    (on_left l.steps.items (expr_with (g.L.Lookup.known l.names) l.rest) ≡ expr_with (g.L.Lookup.known l.names) l.e)
    × (size-Expr l.rest ≤ size-Expr l.e)
