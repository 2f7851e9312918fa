use Rattle.std.proofs.Common.{◌+◌, ◌*◌, drop, length}
use Rattle.jz_interp.proofs.Weights.{weight, weights, body_weight, level}
use Rattle.jz_limits.specs.InnerKnown.{numbers_of}
use Rattle.jz_limits.specs.Walks.{rounds}
use Rattle.jz_first_limit.specs.InnerMet.{block_walk, values_left}
use Rattle.jz_first_limit.specs.InnerWalker.{callees_in}
use Rattle.jz_first_limit.proofs.Steps.{IsLeft}
use Rattle.jz_first_limit.proofs.meeting.+meet.Given as goal

abbrev pub decreases-meet_block : goal.decreases-meet_block
decreases-meet_block l = 8 * (level l.callable.now.funs.now l.left + weights l.stmts.now) + 1

abbrev pub decreases-meet_statement : goal.decreases-meet_statement
decreases-meet_statement l = 8 * (level l.callable.now.funs.now l.left + weight l.stmt.now)

abbrev pub decreases-meet_assign : goal.decreases-meet_assign
decreases-meet_assign l = 8 * level l.callable.now.funs.now l.left + 2

abbrev pub decreases-meet_call : goal.decreases-meet_call
decreases-meet_call l = 8 * level l.callable.now.funs.now l.left + 1

abbrev pub decreases-meet_callee : goal.decreases-meet_callee
decreases-meet_callee l = 8 * (level l.callable.now.funs.now l.left + weights l.fun.now.body) + 3

abbrev pub decreases-meet_copies : goal.decreases-meet_copies
decreases-meet_copies l = 8 * (level l.callable.now.funs.now l.left + weights l.fun.now.body) + 2

abbrev pub decreases-meet_body : goal.decreases-meet_body
decreases-meet_body l = 8 * (level l.callable.now.funs.now l.left + body_weight l.body.now) + 2

abbrev pub decreases-meet_if : goal.decreases-meet_if
decreases-meet_if l = 8 * (level l.callable.now.funs.now l.left + weights l.holds.now + weights l.other.now) + 3

abbrev pub decreases-meet_arms : goal.decreases-meet_arms
decreases-meet_arms l = 8 * (level l.callable.now.funs.now l.left + weights l.holds.now + weights l.other.now) + 2

abbrev pub decreases-meet_while : goal.decreases-meet_while
decreases-meet_while l = 8 * (level l.callable.now.funs.now l.left + weights l.prologue.now + body_weight l.body.now) + 4

abbrev pub decreases-meet_turn_end : goal.decreases-meet_turn_end
decreases-meet_turn_end l = 8 * (level l.callable.now.funs.now l.left + body_weight l.body.now) + 3

abbrev pub decreases-meet_for : goal.decreases-meet_for
decreases-meet_for l = 8 * (level l.callable.now.funs.now l.left + weights l.body.now) + 4

abbrev pub decreases-meet_rounds : goal.decreases-meet_rounds
decreases-meet_rounds l = 8 * (level l.callable.now.funs.now l.left + weights l.body.now) + 3

abbrev pub decreases-meet_round : goal.decreases-meet_round
decreases-meet_round l = 8 * (level l.callable.now.funs.now l.left + weights l.body.now) + 2

abbrev pub invariant-meet_block-loop-stmt : goal.invariant-meet_block-loop-stmt
invariant-meet_block-loop-stmt l =
    IsLeft l.count (block_walk (callees_in l.callable l.left) l.stmts (numbers_of l.fn.known)) l.met
    (block_walk (callees_in l.callable l.left) (drop l.stmt-index l.stmts) (numbers_of l.known))

abbrev pub invariant-meet_rounds-loop-value : goal.invariant-meet_rounds-loop-value
invariant-meet_rounds-loop-value l =
    IsLeft l.count (rounds l.counter (block_walk (callees_in l.callable l.left) l.body) (values_left l.fn.values) (numbers_of l.fn.known)) l.met
    (rounds l.counter (block_walk (callees_in l.callable l.left) l.body) (values_left l.values) (numbers_of l.known))

abbrev pub decreases-meet_rounds-loop-value : goal.decreases-meet_rounds-loop-value
decreases-meet_rounds-loop-value l = length (values_left l.values)
