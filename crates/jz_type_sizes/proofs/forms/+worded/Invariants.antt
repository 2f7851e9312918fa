use Rattle.std.proofs.Common.{◌≡◌, ◌≤◌}
use Rattle.jz_tree.specs.declared.expr.Expr.{size-Expr}
use Rattle.jz_type_sizes.specs.Worded.{is_worded}
use Rattle.jz_type_sizes.proofs.forms.+worded.Given as goal

abbrev pub invariant-loop-cur : goal.invariant-loop-cur
invariant-loop-cur l = (is_worded l.cur ≡ is_worded l.e) × (size-Expr l.cur ≤ size-Expr l.e)
