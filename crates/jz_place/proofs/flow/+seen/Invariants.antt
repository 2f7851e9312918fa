use Rattle.std.proofs.Common.{◌≡◌, ◌+◌, ◌*◌, take}
use Rattle.jz_ir.specs.Tree.{tree_of, done}
use Rattle.jz_runs.specs.Trees as body
use Rattle.jz_operations.specs.Reading.{seen_of}
use Rattle.jz_placing.specs.Flow.{flow}
use Rattle.jz_placing.specs.Variables.{test_of}
use Rattle.jz_place.specs.Bodies.{then_body, body_of}
use Rattle.jz_place.proofs.Bodies.{size}
use Rattle.jz_place.proofs.flow.+seen.Given as goal

abbrev pub invariant-seen_block-loop-i : goal.invariant-seen_block-loop-i
invariant-seen_block-loop-i l = tree_of l.made ≡ flow seen_of test_of (body_of (take l.i l.nodes)) done

abbrev pub decreases-seen_block : goal.decreases-seen_block
decreases-seen_block l = 2 * size (body_of l.nodes.now) + 1

abbrev pub decreases-seen_node : goal.decreases-seen_node
decreases-seen_node l = 2 * size (then_body l.node.now body.done)
