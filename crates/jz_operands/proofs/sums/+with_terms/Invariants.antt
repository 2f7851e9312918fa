use Rattle.std.proofs.Common.{◌≤◌}
use Rattle.jz_tree.specs.declared.expr.Expr.{size-Expr}
use Rattle.jz_operands.specs.declared.sums.Terms.{Terms}
use Rattle.jz_operands.specs.TableHomes.{homes_of}
use Rattle.jz_operands.specs.InnerSums.{SumsBefore, NeverBefore}
use Rattle.jz_operands.proofs.sums.+with_terms.Given as goal

abbrev pub invariant-loop-left : goal.invariant-loop-left
invariant-loop-left l =
    ((all : Terms) → SumsBefore (homes_of l.homes) l.left l.after all → SumsBefore (homes_of l.homes) l.fn.e l.fn.rest all)
    × (size-Expr l.left ≤ size-Expr l.fn.e)
    × (NeverBefore (homes_of l.homes) l.left l.after → NeverBefore (homes_of l.homes) l.fn.e l.fn.rest)
