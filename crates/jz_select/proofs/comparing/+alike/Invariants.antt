use Rattle.std.proofs.Common.{◌≡◌, ◌≤◌}
use Rattle.jz_tree.specs.declared.expr.Expr.{size-Expr}
use Rattle.jz_select.specs.Trees.{tree_of, tree_eq}
use Rattle.jz_select.proofs.comparing.+alike.Given as goal

abbrev pub invariant-alike-loop-a : goal.invariant-alike-loop-a
invariant-alike-loop-a l = (tree_eq (tree_of l.a) (tree_of l.b) ≡ tree_eq (tree_of l.one) (tree_of l.other)) × (size-Expr l.a ≤ size-Expr l.one)
