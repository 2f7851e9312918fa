use Rattle.std.proofs.Common.{◌≡◌, ◌≤◌, ◌+◌, ◌*◌}
use Rattle.jz_tree.specs.declared.expr.Expr.{size-Expr}
use Rattle.jz_limits.specs.InnerKnown.{numbers_of}
use Rattle.jz_limits.specs.InnerLooked.{look_of, seen_left}
use Rattle.jz_limits.proofs.looking.+look.Given as goal

abbrev pub invariant-look_side-loop-rest : goal.invariant-look_side-loop-rest
invariant-look_side-loop-rest l =
    (seen_left l.asking l.operands.items (look_of (numbers_of l.numbers) l.asking l.rest) ≡ look_of (numbers_of l.numbers) l.asking l.expr)
    × (size-Expr l.rest ≤ size-Expr l.expr)

abbrev pub decreases-look : goal.decreases-look
decreases-look l = 4 * size-Expr l.expr.now + 3

abbrev pub decreases-look_side : goal.decreases-look_side
decreases-look_side l = 4 * size-Expr l.expr.now + 2

abbrev pub decreases-look_single : goal.decreases-look_single
decreases-look_single l = 4 * size-Expr l.expr.now + 1

abbrev pub decreases-look_index : goal.decreases-look_index
decreases-look_index l = 4 * size-Expr l.index.now + 4

abbrev pub decreases-look_address : goal.decreases-look_address
decreases-look_address l = 4 * size-Expr l.at.now + 4
