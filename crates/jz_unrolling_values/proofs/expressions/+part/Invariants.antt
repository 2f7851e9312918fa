use Rattle.std.proofs.Common.{◌+◌, ◌*◌, length}
use Rattle.jz_tree.specs.declared.expr.Expr.{size-Expr}
use Rattle.jz_tree.specs.declared.expr.Expr.TheViews.{out-Access}
use Rattle.jz_unrolling_values.specs.InlineNames.{names_in}
use Rattle.jz_unrolling_values.specs.Numbers.{numbers_in}
use Rattle.jz_unrolling_values.proofs.PartLemmas.{IsOnTheWay}
use Rattle.jz_unrolling_values.proofs.expressions.+part.Given as goal

abbrev pub decreases-part_of : goal.decreases-part_of
decreases-part_of l = 4 * size-Expr l.expr.now + 1

abbrev pub decreases-single_part : goal.decreases-single_part
decreases-single_part l = 4 * size-Expr l.expr.now

abbrev pub decreases-boxed_with_values : goal.decreases-boxed_with_values
decreases-boxed_with_values l = 4 * size-Expr l.expr.now + 2

abbrev pub invariant-part_of-loop-op : goal.invariant-part_of-loop-op
invariant-part_of-loop-op l = IsOnTheWay (names_in l.values.vars.now) (numbers_in l.values.known.now) l.expr l.waiting.items l.part

abbrev pub decreases-part_of-loop-op : goal.decreases-part_of-loop-op
decreases-part_of-loop-op l = length l.waiting.items

abbrev pub decreases-access_of : goal.decreases-access_of
decreases-access_of l = 4 * size-Expr (out-Access l.access.now).at + 3
