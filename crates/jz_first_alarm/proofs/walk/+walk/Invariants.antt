use Rattle.std.proofs.Common.{◌≡◌, ◌+◌, ◌*◌}
use Rattle.jz_fact_sets.specs.Kept.{facts_of}
use Rattle.jz_block_facts.proofs.Measures.{weight, weights, body_weight}
use Rattle.jz_first_alarm.proofs.Walking.{IsOn}
use Rattle.jz_first_alarm.proofs.walk.+walk.Given as goal

abbrev pub decreases-ask_block : goal.decreases-ask_block
decreases-ask_block l = 8 * weights l.stmts.now + 1

abbrev pub decreases-ask_statement : goal.decreases-ask_statement
decreases-ask_statement l = 8 * weight l.stmt.now

abbrev pub decreases-ask_arm : goal.decreases-ask_arm
decreases-ask_arm l = 8 * weights l.stmts.now + 2

abbrev pub decreases-ask_rest : goal.decreases-ask_rest
decreases-ask_rest l = 8 * body_weight l.parts.body.now + 3

abbrev pub decreases-ask_while : goal.decreases-ask_while
decreases-ask_while l = 8 * (weights l.parts.prologue.now + body_weight l.parts.body.now) + 5

abbrev pub invariant-ask_block-loop-stmt : goal.invariant-ask_block-loop-stmt
invariant-ask_block-loop-stmt l =
    (l.set.below.items ≡ l.fn.set.below.items)
    × IsOn l.known l.stmts l.stmt-index l.at (facts_of l.known.given.now l.fn.set) l.next (facts_of l.known.given.now l.set)
