use Rattle.std.proofs.Common.{◌≡◌, ◌≤◌}
use Rattle.jz_tree.specs.declared.expr.Expr.{size-Expr}
use Rattle.jz_select.specs.Look.{look_of, terms_of}
use Rattle.jz_select.specs.Sums.{joined_sum}
use Rattle.jz_select.proofs.look.+sum.Given as goal

abbrev pub invariant-loop-cur : goal.invariant-loop-cur
invariant-loop-cur l = (joined_sum l.all (look_of l.cur).sum ≡ terms_of l.e) × (size-Expr l.cur ≤ size-Expr l.e)
