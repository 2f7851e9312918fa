use Rattle.std.proofs.Common.{◌≡◌, ◌≤◌}
use Rattle.jz_tree.specs.declared.expr.Expr.{size-Expr}
use Rattle.jz_select.specs.Look.{look_of}
use Rattle.jz_select.proofs.look.+inline_condition.Given as goal

abbrev pub invariant-loop-cur : goal.invariant-loop-cur
invariant-loop-cur l = ((look_of l.cur).condition ≡ (look_of l.e).condition) × (size-Expr l.cur ≤ size-Expr l.e)
