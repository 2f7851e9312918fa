use Rattle.std.proofs.Common.{◌≡◌, ◌+◌, ◌*◌, take}
use Rattle.jz_runs.specs.Trees.{done}
use Rattle.jz_operations.specs.Insns.{places_in, slots_in}
use Rattle.jz_placing.specs.Placing.{code_of}
use Rattle.jz_place.specs.Bodies.{then_body, body_of}
use Rattle.jz_place.specs.Codes.{code_in}
use Rattle.jz_place.proofs.Bodies.{size}
use Rattle.jz_place.proofs.placing.+place.Given as goal

abbrev pub invariant-place_block-loop-i : goal.invariant-place_block-loop-i
invariant-place_block-loop-i l = code_in l.made ≡ code_of (places_in l.places) (slots_in l.places) (body_of (take l.i l.nodes))

abbrev pub decreases-place_block : goal.decreases-place_block
decreases-place_block l = 2 * size (body_of l.nodes.now) + 1

abbrev pub decreases-place_node : goal.decreases-place_node
decreases-place_node l = 2 * size (then_body l.node.now done)
