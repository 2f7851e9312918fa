use Rattle.std.proofs.Common.{◌≡◌, ◌∙◌, ap, ◌+◌, ◌*◌, ◌<◌, length, arith, get_or}
use Rattle.jz_runs.specs.Trees.{done}
use Rattle.jz_place.specs.Bodies.{then_body, body_of}
use Rattle.jz_place.proofs.Bodies.{size, size_at}
use Rattle.jz_place.proofs.Flows.{one_more}
use Rattle.jz_place.proofs.flow.+seen.Goals as goal

pub seen_block-seen_node-requires : goal.seen_block-seen_node-requires
seen_block-seen_node-requires t c =
    let d : 2 * size (body_of c.args.nodes.now) + 1 ≡ t = c.decreases in
    let e = c.index-as_slice-i.is ∙ ap (λ x. get_or x c.loop-i.i c.index-as_slice-i.result) c.as_slice.ensures in
    let lt : c.loop-i.i < length c.args.nodes.now = omega (arith, ap length c.as_slice.ensures) in
    let h : 2 * size (then_body c.index-as_slice-i.result done) < t = omega (arith, size_at c.args.nodes.now c.loop-i.i c.index-as_slice-i.result lt e) in
    (h, tt)

pub seen_block-loop-i-preserved : goal.seen_block-loop-i-preserved
seen_block-loop-i-preserved t c =
    let e = c.index-as_slice-i.is ∙ ap (λ x. get_or x c.loop-i.i c.index-as_slice-i.result) c.as_slice.ensures in
    let lt : c.loop-i.i < length c.args.nodes.now = omega (arith, ap length c.as_slice.ensures) in
    one_more c.args.nodes.now c.loop-i.i c.index-as_slice-i.result c.in_ok-node.node c.loop-i.made _ lt e c.loop-i.invariant c.in_ok-node.ensures c.in_ok-push.ensures.ok
