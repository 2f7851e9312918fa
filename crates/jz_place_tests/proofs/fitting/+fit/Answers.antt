use Rattle.std.proofs.Common.{◌≡◌, ◌∙◌, ap, ◌+◌, ◌*◌, ◌<◌, length, arith, get_or}
use Rattle.jz_runs.specs.Trees.{done}
use Rattle.jz_operations.specs.Insns.{slots_in}
use Rattle.jz_place.specs.Bodies.{then_body, body_of}
use Rattle.jz_place.proofs.Bodies.{size, size_at}
use Rattle.jz_place_tests.proofs.Displacements.{one_more}
use Rattle.jz_place_tests.proofs.fitting.+fit.Goals as goal

pub block_fits-node_fits-requires : goal.block_fits-node_fits-requires
block_fits-node_fits-requires t c =
    let d : 2 * size (body_of c.args.nodes.now) + 1 ≡ t = c.decreases in
    let e = c.index-as_slice-i.is ∙ ap (λ x. get_or x c.loop-i.i c.index-as_slice-i.result) c.as_slice.ensures in
    let lt : c.loop-i.i < length c.args.nodes.now = omega (arith, ap length c.as_slice.ensures) in
    let h : 2 * size (then_body c.index-as_slice-i.result done) < t = omega (arith, size_at c.args.nodes.now c.loop-i.i c.index-as_slice-i.result lt e) in
    (h, tt)

pub block_fits-loop-i-preserved : goal.block_fits-loop-i-preserved
block_fits-loop-i-preserved t c =
    let e = c.index-as_slice-i.is ∙ ap (λ x. get_or x c.loop-i.i c.index-as_slice-i.result) c.as_slice.ensures in
    let lt : c.loop-i.i < length c.args.nodes.now = omega (arith, ap length c.as_slice.ensures) in
    one_more (slots_in c.args.places.now) c.args.nodes.now c.loop-i.i c.index-as_slice-i.result lt e c.loop-i.invariant (c.node_fits.ensures c.if-not-node_fits.false)
