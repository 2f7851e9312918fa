use Rattle.std.proofs.Common.{◌≡◌, ◌∙◌, ap, ◌+◌, ◌*◌, ◌<◌, length, arith, get_or}
use Rattle.jz_ir.specs.Tree.{then_tree, tree_of, done}
use Rattle.jz_live.specs.Lives.{size}
use Rattle.jz_live.proofs.Nodes.{size_at}
use Rattle.jz_live_lists.proofs.FollowedLemmas.{one_more, if_only, while_only}
use Rattle.jz_live_lists.proofs.followed.+narrow.Goals as goal

pub narrow_block-narrow_node-requires : goal.narrow_block-narrow_node-requires
narrow_block-narrow_node-requires t c =
    let d : 2 * size (tree_of c.args.nodes.now) + 1 ≡ t = c.decreases in
    let e = c.index-as_slice-i.is ∙ ap (λ x. get_or x c.loop-i.i c.index-as_slice-i.result) c.as_slice.ensures in
    let lt : c.loop-i.i < length c.args.nodes.now = omega (arith, ap length c.as_slice.ensures) in
    let h : 2 * size (then_tree c.index-as_slice-i.result done) < t = omega (arith, size_at c.args.nodes.now c.loop-i.i c.index-as_slice-i.result lt e) in
    (h, tt)

pub narrow_block-loop-i-preserved : goal.narrow_block-loop-i-preserved
narrow_block-loop-i-preserved t c =
    let e = c.index-as_slice-i.is ∙ ap (λ x. get_or x c.loop-i.i c.index-as_slice-i.result) c.as_slice.ensures in
    let lt : c.loop-i.i < length c.args.nodes.now = omega (arith, ap length c.as_slice.ensures) in
    one_more c.args.followed.now c.args.nodes.now c.loop-i.i c.index-as_slice-i.result c.in_ok-node.node c.loop-i.made _ lt e c.loop-i.invariant c.in_ok-node.ensures c.in_ok-push.ensures.ok
