use Rattle.std.proofs.Common.{◌≡◌, ◌≤◌, ◌+◌, ◌*◌}
use Rattle.jz_tree.specs.declared.expr.Expr.{size-Expr}
use Rattle.jz_terms.specs.Terms.{term_of}
use Rattle.jz_required.specs.Readings.{reading}
use Rattle.jz_required.specs.InnerSides.{on_operands}
use Rattle.jz_required.proofs.looking.+look.Given as goal

abbrev pub invariant-look_side-loop-rest : goal.invariant-look_side-loop-rest
invariant-look_side-loop-rest l =
    (on_operands l.operands.items (reading (term_of l.rest)) ≡ reading (term_of l.expr))
    × (size-Expr l.rest ≤ size-Expr l.expr)

abbrev pub decreases-look : goal.decreases-look
decreases-look l = 4 * size-Expr l.expr.now + 3

abbrev pub decreases-look_side : goal.decreases-look_side
decreases-look_side l = 4 * size-Expr l.expr.now + 2

abbrev pub decreases-look_single : goal.decreases-look_single
decreases-look_single l = 4 * size-Expr l.expr.now + 1
