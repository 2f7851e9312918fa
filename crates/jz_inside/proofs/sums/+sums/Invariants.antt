use Rattle.std.proofs.Common.{◌≡◌, ◌≤◌, ◌+◌, ◌*◌, Some}
use Rattle.jz_tree.specs.declared.expr.Expr.{size-Expr}
use Rattle.jz_terms.specs.Terms.{term_of}
use Rattle.jz_alarms.specs.Conditions.{joined, sum_of}
use Rattle.jz_inside.specs.InnerSums.{seen}
use Rattle.jz_inside.proofs.sums.+sums.Given as goal

abbrev pub decreases-add_sum : goal.decreases-add_sum
decreases-add_sum l = 2 * size-Expr l.e.now + 1

abbrev pub decreases-add_behind : goal.decreases-add_behind
decreases-add_behind l = 2 * size-Expr l.right.now + 2

abbrev pub invariant-add_sum-loop-rest : goal.invariant-add_sum-loop-rest
invariant-add_sum-loop-rest l =
    (joined (sum_of (term_of l.rest)) (Some (seen l.sum)) ≡ joined (sum_of (term_of l.e)) (Some (seen l.fn.sum)))
    × (size-Expr l.rest ≤ size-Expr l.e)

abbrev pub decreases-add_sum-loop-rest : goal.decreases-add_sum-loop-rest
decreases-add_sum-loop-rest l = size-Expr l.rest
