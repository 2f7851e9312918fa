use Rattle.std.proofs.Common.{◌≡◌, ◌≤◌}
use Rattle.jz_tree.specs.declared.expr.Expr.{size-Expr}
use Rattle.jz_type_names.specs.Kinds.{is_inline}
use Rattle.jz_type_names.proofs.kinds.+is_inline.Given as goal

abbrev pub invariant-loop-cur : goal.invariant-loop-cur
invariant-loop-cur l = (is_inline l.cur ≡ is_inline l.expr) × (size-Expr l.cur ≤ size-Expr l.expr)
