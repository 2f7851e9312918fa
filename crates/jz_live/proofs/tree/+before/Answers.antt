use Rattle.std.proofs.Common.{◌≡◌, ◌∙◌, sym, ap, subst, ◌+◌, ◌*◌, ◌-◌, ◌<◌, length, arith, get_or}
use Rattle.jz_bits.specs.Has.{has}
use Rattle.jz_ir.specs.Tree.{then_tree, tree_of, done}
use Rattle.jz_live.specs.InnerLives.{size}
use Rattle.jz_live.specs.Lives.{TreeBelow}
use Rattle.jz_live.proofs.Nodes.{one_more, fine_at, size_at}
use Rattle.jz_live.proofs.tree.+before.Goals as goal

pub before_block-before_node-requires : goal.before_block-before_node-requires
before_block-before_node-requires t c =
    let d : 2 * size (tree_of c.args.nodes.now) + 1 ≡ t = c.decreases in
    let e = c.index-as_slice-i.is ∙ ap (λ x. get_or x (c.loop-i.i - 1) c.index-as_slice-i.result) c.as_slice.ensures in
    let lt : c.loop-i.i - 1 < length c.args.nodes.now = omega (arith, ap length c.as_slice.ensures) in
    let h : 2 * size (then_tree c.index-as_slice-i.result done) < t = omega (arith, size_at c.args.nodes.now (c.loop-i.i - 1) c.index-as_slice-i.result lt e) in
    (h, subst (λ n. TreeBelow (64 * n) (then_tree c.index-as_slice-i.result done)) (sym c.loop-i.invariant.0) (fine_at _ c.args.nodes.now (c.loop-i.i - 1) c.index-as_slice-i.result c.requires (omega (arith, ap length c.as_slice.ensures)) e))

pub before_block-loop-i-preserved : goal.before_block-loop-i-preserved
before_block-loop-i-preserved t c =
    let e = c.index-as_slice-i.is ∙ ap (λ x. get_or x (c.loop-i.i - 1) c.index-as_slice-i.result) c.as_slice.ensures in (
      c.in_ok-live.ensures.wide ∙ c.loop-i.invariant.0,
      λ v. one_more v c.loop-i.i (c.loop-i.i - 1) c.args.nodes.now c.index-as_slice-i.result (has c.args.behind v) (has c.loop-i.live v) _ (omega arith) (omega arith) e (c.loop-i.invariant.1 v) (c.in_ok-live.ensures.set v),
    )
