use Rattle.std.proofs.Common.{◌≡◌, ◌≤◌, ◌+◌, ◌*◌}
use Rattle.std.specs.Option.{option_or}
use Rattle.jz_tree.specs.declared.expr.Expr.{size-Expr}
use Rattle.jz_meaning.specs.Values.{own_size}
use Rattle.jz_meaning.proofs.left.+sizes.Given as goal

abbrev pub decreases-own_size : goal.decreases-own_size
decreases-own_size l = 3 * size-Expr l.e.now + 1

abbrev pub decreases-single_size : goal.decreases-single_size
decreases-single_size l = 3 * size-Expr l.e.now

abbrev pub decreases-size_behind : goal.decreases-size_behind
decreases-size_behind l = 3 * size-Expr l.right.now + 2

abbrev pub invariant-own_size-loop-rest : goal.invariant-own_size-loop-rest
invariant-own_size-loop-rest l = (option_or (own_size l.rest) l.found ≡ own_size l.e) × (size-Expr l.rest ≤ size-Expr l.e)

abbrev pub decreases-own_size-loop-rest : goal.decreases-own_size-loop-rest
decreases-own_size-loop-rest l = size-Expr l.rest
