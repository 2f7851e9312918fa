use Rattle.std.proofs.Common.{◌≡◌, ◌∙◌, ap, ◌+◌, ◌*◌, ◌-◌, ◌<◌, length, arith, get_or}
use Rattle.jz_ir.specs.Paths.{among}
use Rattle.jz_ir.specs.Tree.{then_tree, tree_of, done}
use Rattle.jz_live.specs.Lives.{size}
use Rattle.jz_live.proofs.Nodes.{one_more, size_at}
use Rattle.jz_live_lists.proofs.tree.+before.Goals as goal

pub before_block-before_node-requires : goal.before_block-before_node-requires
before_block-before_node-requires t c =
    let d : 2 * size (tree_of c.args.nodes.now) + 1 ≡ t = c.decreases in
    let e = c.index-as_slice-i.is ∙ ap (λ x. get_or x (c.loop-i.i - 1) c.index-as_slice-i.result) c.as_slice.ensures in
    let lt : c.loop-i.i - 1 < length c.args.nodes.now = omega (arith, ap length c.as_slice.ensures) in
    let h : 2 * size (then_tree c.index-as_slice-i.result done) < t = omega (arith, size_at c.args.nodes.now (c.loop-i.i - 1) c.index-as_slice-i.result lt e) in
    (h, tt)

pub before_block-loop-i-preserved : goal.before_block-loop-i-preserved
before_block-loop-i-preserved t c =
    let e = c.index-as_slice-i.is ∙ ap (λ x. get_or x (c.loop-i.i - 1) c.index-as_slice-i.result) c.as_slice.ensures in
    λ v. one_more v c.loop-i.i (c.loop-i.i - 1) c.args.nodes.now c.index-as_slice-i.result (among c.args.behind v) (among c.loop-i.live v) _ (omega arith) (omega (arith, ap length c.as_slice.ensures)) e (c.loop-i.invariant v) (c.in_ok-live.ensures v)
