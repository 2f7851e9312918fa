use Rattle.std.proofs.Common.{◌+◌, ◌*◌, take}
use Rattle.jz_runs.specs.Trees.{done}
use Rattle.jz_operations.specs.Insns.{slots_in}
use Rattle.jz_place.specs.Bodies.{then_body, body_of}
use Rattle.jz_place.specs.Codes.{BodyFits}
use Rattle.jz_place.proofs.Bodies.{size}
use Rattle.jz_place_tests.proofs.fitting.+fit.Given as goal

abbrev pub invariant-block_fits-loop-i : goal.invariant-block_fits-loop-i
invariant-block_fits-loop-i l = BodyFits (slots_in l.places) (body_of (take l.i l.nodes))

abbrev pub decreases-block_fits : goal.decreases-block_fits
decreases-block_fits l = 2 * size (body_of l.nodes.now) + 1

abbrev pub decreases-node_fits : goal.decreases-node_fits
decreases-node_fits l = 2 * size (then_body l.node.now done)
