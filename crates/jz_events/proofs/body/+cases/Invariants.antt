use Rattle.std.proofs.Common.{◌≡◌, ◌+◌, ◌*◌, take}
use Rattle.jz_runs.specs.Trees.{done}
use Rattle.jz_place.specs.Bodies.{then_body, body_of}
use Rattle.jz_place.proofs.Bodies.{size}
use Rattle.jz_events.specs.Cases.{cases_over, slots_of}
use Rattle.jz_events.proofs.body.+cases.Given as goal

abbrev pub invariant-block_cases-loop-i : goal.invariant-block_cases-loop-i
invariant-block_cases-loop-i l = l.cases.items ≡ cases_over (slots_of l.frame) l.frame.size (body_of (take l.i l.nodes))

abbrev pub decreases-block_cases : goal.decreases-block_cases
decreases-block_cases l = 4 * size (body_of l.nodes.now) + 1

abbrev pub decreases-node_case : goal.decreases-node_case
decreases-node_case l = 4 * size (then_body l.node.now done)

abbrev pub decreases-if_case : goal.decreases-if_case
decreases-if_case l = 4 * (size (body_of l.yes.now) + size (body_of l.no.now)) + 2

abbrev pub decreases-while_case : goal.decreases-while_case
decreases-while_case l = 4 * (size (body_of l.prologue.now) + size (body_of l.inner.now)) + 2
