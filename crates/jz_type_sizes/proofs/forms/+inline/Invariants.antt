use Rattle.std.proofs.Common.{◌≡◌, ◌≤◌}
use Rattle.jz_tree.specs.declared.expr.Expr.{size-Expr}
use Rattle.jz_type_sizes.specs.InnerFound.{found_of}
use Rattle.jz_type_sizes.proofs.forms.+inline.Given as goal

abbrev pub invariant-loop-cur : goal.invariant-loop-cur
invariant-loop-cur l = ((found_of l.cur).form.inline ≡ (found_of l.e).form.inline) × (size-Expr l.cur ≤ size-Expr l.e)
