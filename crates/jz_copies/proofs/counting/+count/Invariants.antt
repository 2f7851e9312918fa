use Rattle.std.proofs.Common.{◌+◌, ◌*◌, drop}
use Rattle.jz_meaning.specs.Runs.{callees_of}
use Rattle.jz_interp.proofs.Weights.{weight, weights, body_weight, level}
use Rattle.jz_copies.specs.InnerCounts.{block_depths}
use Rattle.jz_copies.proofs.Walks.{IsLeft}
use Rattle.jz_copies.proofs.counting.+count.Given as goal

abbrev pub decreases-count_block : goal.decreases-count_block
decreases-count_block l = 6 * (level l.callable.now.funs.now l.left + weights l.stmts.now) + 1

abbrev pub decreases-count_statement : goal.decreases-count_statement
decreases-count_statement l = 6 * (level l.callable.now.funs.now l.left + weight l.stmt.now)

abbrev pub decreases-count_assign : goal.decreases-count_assign
decreases-count_assign l = 6 * level l.callable.now.funs.now l.left + 5

abbrev pub decreases-count_call : goal.decreases-count_call
decreases-count_call l = 6 * level l.callable.now.funs.now l.left + 4

abbrev pub decreases-count_one : goal.decreases-count_one
decreases-count_one l = 6 * (level l.callable.now.funs.now l.left + weights l.body.now) + 2

abbrev pub decreases-count_two : goal.decreases-count_two
decreases-count_two l = 6 * (level l.callable.now.funs.now l.left + weights l.first.now + weights l.second.now) + 4

abbrev pub decreases-count_while : goal.decreases-count_while
decreases-count_while l = 6 * (level l.callable.now.funs.now l.left + weights l.prologue.now + body_weight l.body.now) + 5

abbrev pub invariant-count_block-loop-stmt : goal.invariant-count_block-loop-stmt
invariant-count_block-loop-stmt l =
    IsLeft l.fn.before (block_depths (callees_of l.callable.funs.now l.left) l.depth l.stmts) l.extent (block_depths (callees_of l.callable.funs.now l.left) l.depth (drop l.stmt-index l.stmts))
