use Rattle.std.proofs.Common.{◌≡◌, ◌≤◌}
use Rattle.jz_tree.specs.declared.expr.Expr.{size-Expr}
use Rattle.jz_type_rows.specs.Indexes.{is_inline_integer}
use Rattle.jz_type_rows.proofs.indexes.+is_inline_integer.Given as goal

abbrev pub invariant-loop-cur : goal.invariant-loop-cur
invariant-loop-cur l = (is_inline_integer l.cur ≡ is_inline_integer l.expr) × (size-Expr l.cur ≤ size-Expr l.expr)
