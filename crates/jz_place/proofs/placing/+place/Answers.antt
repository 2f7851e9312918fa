use Rattle.std.proofs.Common.{◌≡◌, ◌∙◌, ap, ◌+◌, ◌*◌, ◌<◌, length, arith, get_or}
use Rattle.jz_runs.specs.Trees.{done}
use Rattle.jz_operations.specs.Insns.{places_in, slots_in}
use Rattle.jz_place.specs.Bodies.{then_body, body_of}
use Rattle.jz_place.proofs.Bodies.{size, size_at}
use Rattle.jz_place.proofs.Codes.{one_more, fits_at}
use Rattle.jz_place.proofs.placing.+place.Goals as goal

pub place_block-place_node-requires : goal.place_block-place_node-requires
place_block-place_node-requires t c =
    let d : 2 * size (body_of c.args.nodes.now) + 1 ≡ t = c.decreases in
    let e = c.index-as_slice-i.is ∙ ap (λ x. get_or x c.loop-i.i c.index-as_slice-i.result) c.as_slice.ensures in
    let lt : c.loop-i.i < length c.args.nodes.now = omega (arith, ap length c.as_slice.ensures) in
    let h : 2 * size (then_body c.index-as_slice-i.result done) < t = omega (arith, size_at c.args.nodes.now c.loop-i.i c.index-as_slice-i.result lt e) in
    (h, fits_at (slots_in c.args.places.now) c.args.nodes.now c.loop-i.i c.index-as_slice-i.result lt e c.requires)

pub place_block-loop-i-preserved : goal.place_block-loop-i-preserved
place_block-loop-i-preserved t c =
    let e = c.index-as_slice-i.is ∙ ap (λ x. get_or x c.loop-i.i c.index-as_slice-i.result) c.as_slice.ensures in
    let lt : c.loop-i.i < length c.args.nodes.now = omega (arith, ap length c.as_slice.ensures) in
    one_more (places_in c.args.places.now) (slots_in c.args.places.now) c.args.nodes.now c.loop-i.i c.index-as_slice-i.result c.in_ok-node.node c.loop-i.made _ lt e c.loop-i.invariant c.in_ok-node.ensures c.in_ok-push.ensures.ok
