use Rattle.std.proofs.Common.{◌≡◌, ◌≤◌}
use Rattle.jz_tree.specs.declared.expr.Expr.{size-Expr}
use Rattle.jz_tree.specs.LeftSides.{on_left}
use Rattle.jz_inline.specs.Names.{expr_in}
use Rattle.jz_inline.specs.CopiedNames.{names_of}
use Rattle.jz_inline.proofs.expressions.+rename.Given as goal

abbrev pub invariant-side_in_copy-loop-rest : goal.invariant-side_in_copy-loop-rest
invariant-side_in_copy-loop-rest l =
    (on_left l.steps.items (expr_in (names_of l.names) l.rest) ≡ expr_in (names_of l.names) l.expr)
    × (size-Expr l.rest ≤ size-Expr l.expr)
