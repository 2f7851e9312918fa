use Rattle.std.proofs.Common.{◌+◌, ◌*◌, ◌^◌}
use Rattle.jz_tree.specs.declared.expr.Expr.{size-Expr}
use Rattle.jz_integers.proofs.written.+written.Given as goal

abbrev pub decreases-climbed : goal.decreases-climbed
decreases-climbed l = 2 ^ 32 * size-Expr l.e.now + l.steps

abbrev pub decreases-value_of : goal.decreases-value_of
decreases-value_of l = 2 ^ 32 * (size-Expr l.e.now + 1)
