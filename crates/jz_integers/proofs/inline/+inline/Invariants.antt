use Rattle.std.proofs.Common.{◌+◌, ◌*◌, length}
use Rattle.jz_tree.specs.declared.expr.Expr.{size-Expr}
use Rattle.jz_integers.proofs.LeftSideLemmas.{IsOnTheWay}
use Rattle.jz_integers.proofs.inline.+inline.Given as goal

abbrev pub decreases-inline_value : goal.decreases-inline_value
decreases-inline_value g l = 3 * size-Expr l.e.now + 1

abbrev pub decreases-single_value : goal.decreases-single_value
decreases-single_value g l = 3 * size-Expr l.e.now

abbrev pub decreases-joined_value : goal.decreases-joined_value
decreases-joined_value g l = 3 * size-Expr l.right.now + 2

abbrev pub invariant-inline_value-loop-op : goal.invariant-inline_value-loop-op
invariant-inline_value-loop-op g l = IsOnTheWay (g.N.Numbers.numbers l.numbers) l.e l.waiting.items l.value

abbrev pub decreases-inline_value-loop-op : goal.decreases-inline_value-loop-op
decreases-inline_value-loop-op g l = length l.waiting.items
