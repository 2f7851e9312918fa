use Rattle.std.proofs.Common.{◌+◌, ◌*◌, drop}
use Rattle.jz_copies.proofs.Weights.{weight, weights, body_weight, level}
use Rattle.jz_inline.specs.CopiedNames.{names_of}
use Rattle.jz_inlining.specs.InnerCopies.{block_in}
use Rattle.jz_inlining.proofs.Blocks.{IsLeft}
use Rattle.jz_inlining.proofs.copying.+copy.Given as goal

abbrev pub decreases-copy_block : goal.decreases-copy_block
decreases-copy_block l = 6 * (level l.copier.now.callable.funs.now l.left + weights l.stmts.now) + 1

abbrev pub decreases-copy_statement : goal.decreases-copy_statement
decreases-copy_statement l = 6 * (level l.copier.now.callable.funs.now l.left + weight l.stmt.now)

abbrev pub decreases-copy_assign : goal.decreases-copy_assign
decreases-copy_assign l = 6 * level l.copier.now.callable.funs.now l.left + 5

abbrev pub decreases-copy_call : goal.decreases-copy_call
decreases-copy_call l = 6 * (level l.copier.now.callable.funs.now l.left + weights l.call.callee.now.body) + 2

abbrev pub decreases-copy_body : goal.decreases-copy_body
decreases-copy_body l = 6 * (level l.copier.now.callable.funs.now l.left + weights l.stmts.now) + 2

abbrev pub decreases-copy_if : goal.decreases-copy_if
decreases-copy_if l = 6 * (level l.copier.now.callable.funs.now l.left + weights l.holds.now + weights l.other.now) + 3

abbrev pub decreases-copy_while : goal.decreases-copy_while
decreases-copy_while l = 6 * (level l.copier.now.callable.funs.now l.left + weights l.prologue.now + body_weight l.body.now) + 4

abbrev pub decreases-copy_until : goal.decreases-copy_until
decreases-copy_until l = 6 * (level l.copier.now.callable.funs.now l.left + weights l.prologue.now) + 3

abbrev pub decreases-copy_turns : goal.decreases-copy_turns
decreases-copy_turns l = 6 * (level l.copier.now.callable.funs.now l.left + weights l.prologue.now + weights l.body.now) + 3

abbrev pub decreases-copy_for : goal.decreases-copy_for
decreases-copy_for l = 6 * (level l.copier.now.callable.funs.now l.left + weights l.body.now) + 3

abbrev pub invariant-copy_block-loop-stmt : goal.invariant-copy_block-loop-stmt
invariant-copy_block-loop-stmt l =
    IsLeft (block_in l.copier l.left l.stmts) (block_in l.copier l.left (drop l.stmt-index l.stmts)) (names_of l.names) l.fn.out l.out l.steps
