use Rattle.std.proofs.Common.{◌≡◌, ◌≤◌}
use Rattle.jz_tree.specs.declared.expr.Expr.{size-Expr}
use Rattle.jz_type_names.specs.Order.{earlier}
use Rattle.jz_type_sizes.specs.InnerFound.{found_of}
use Rattle.jz_type_sizes.proofs.walk.+first.Given as goal

abbrev pub invariant-loop-cur : goal.invariant-loop-cur
invariant-loop-cur l = (earlier l.best ((found_of l.cur.expr.now).first l.cur.inline l.cur.want) ≡ (found_of l.e).first l.fn.e_inline l.fn.want) × (size-Expr l.cur.expr.now ≤ size-Expr l.e)

abbrev pub decreases-loop-cur : goal.decreases-loop-cur
decreases-loop-cur l = size-Expr l.cur.expr.now
