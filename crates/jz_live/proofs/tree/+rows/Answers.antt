use Rattle.std.proofs.Common.{◌≡◌, ◌∙◌, sym, ap, subst, ◌+◌, ◌*◌, ◌-◌, ◌<◌, length, arith, get_or, ◌++◌}
use Rattle.std.specs.List.{All}
use Rattle.jz_bits.specs.Has.{has}
use Rattle.jz_ir.specs.Tree.{then_tree, tree_of, done}
use Rattle.jz_live.specs.InnerLives.{live_before, size, column, live_after_each}
use Rattle.jz_live.specs.Lives.{TreeBelow}
use Rattle.jz_live.proofs.Nodes.{one_more, fine_at, size_at, afters_more, while_set, while_rows, while_is}
use Rattle.jz_live.proofs.tree.+rows.Goals as goal

pub rows_block-rows_node-requires : goal.rows_block-rows_node-requires
rows_block-rows_node-requires t c =
    let d : 2 * size (tree_of c.args.nodes.now) + 1 ≡ t = c.decreases in
    let e = c.index-as_slice-i.is ∙ ap (λ x. get_or x (c.loop-i.i - 1) c.index-as_slice-i.result) c.as_slice.ensures in
    let lt : c.loop-i.i - 1 < length c.args.nodes.now = omega (arith, ap length c.as_slice.ensures) in
    let h : 2 * size (then_tree c.index-as_slice-i.result done) < t = omega (arith, size_at c.args.nodes.now (c.loop-i.i - 1) c.index-as_slice-i.result lt e) in (
      h,
      (
        subst (λ n. TreeBelow (64 * n) (then_tree c.index-as_slice-i.result done)) (sym c.loop-i.invariant.0) (fine_at _ c.args.nodes.now (c.loop-i.i - 1) c.index-as_slice-i.result c.requires.below lt e),
        subst (λ n. All (λ r. length r ≡ n) c.loop-i.rows.items) (sym c.loop-i.invariant.0) c.loop-i.invariant.3,
      ),
    )

pub rows_block-loop-i-preserved : goal.rows_block-loop-i-preserved
rows_block-loop-i-preserved t c =
    let e = c.index-as_slice-i.is ∙ ap (λ x. get_or x (c.loop-i.i - 1) c.index-as_slice-i.result) c.as_slice.ensures in
    let lt : c.loop-i.i - 1 < length c.args.nodes.now = omega (arith, ap length c.as_slice.ensures) in (
      c.in_ok-live.ensures.wide ∙ c.loop-i.invariant.0,
      λ v. one_more v c.loop-i.i (c.loop-i.i - 1) c.args.nodes.now c.index-as_slice-i.result (has c.args.behind v) (has c.loop-i.live v) _ (omega arith) lt e (c.loop-i.invariant.1 v) (c.in_ok-live.ensures.set v),
      λ v. afters_more v c.loop-i.i (c.loop-i.i - 1) c.args.nodes.now c.index-as_slice-i.result (has c.args.behind v) (has c.loop-i.live v) (column v c.args.rows.now.items) (column v c.loop-i.rows.items) _ (omega arith) lt e (c.loop-i.invariant.1 v) (c.loop-i.invariant.2 v) (c.in_ok-live.ensures.rows v),
      subst (λ n. All (λ r. length r ≡ n) c.rows_node.new.rows.items) c.loop-i.invariant.0 c.in_ok-live.ensures.rows_wide,
    )

pub rows_node-returns-in_ok-live-in-While-3-clause-set :
    goal.rows_node-returns-in_ok-live-in-While-3-clause-set
rows_node-returns-in_ok-live-in-While-3-clause-set t c = λ v.
    while_set v (tree_of c.in-While.prologue) c.in-While.test (tree_of c.in-While.body) (has c.args.behind v) _ _ _ _ _ _ _ (c.in_ok-empty_like-in-While.ensures.empty v) (c.in_ok-first-in-While.ensures.set v) (c.before_test.ensures.set v) (c.in_ok-head-in-While.ensures.set v) (c.in_ok-live-in-While.ensures.set v) (c.in_ok-live-in-While-2.ensures.set v) (c.in_ok-live-in-While-3.ensures.set v)
    ∙ ap (λ x. live_before v x (has c.args.behind v)) (sym (ap (λ n. then_tree n done) c.in-While.is ∙ while_is _ _ _))

pub rows_node-returns-in_ok-live-in-While-3-clause-rows :
    goal.rows_node-returns-in_ok-live-in-While-3-clause-rows
rows_node-returns-in_ok-live-in-While-3-clause-rows t c = λ v.
    while_rows v (tree_of c.in-While.prologue) c.in-While.test (tree_of c.in-While.body) (has c.args.behind v) _ _ _ _ _ _ _ (c.in_ok-empty_like-in-While.ensures.empty v) (c.in_ok-first-in-While.ensures.set v) (c.before_test.ensures.set v) (c.in_ok-head-in-While.ensures.set v) (c.in_ok-live-in-While.ensures.set v) (c.in_ok-live-in-While-2.ensures.set v) (c.in_ok-live-in-While-3.ensures.set v)
    _ _ _ _ (c.in_ok-live-in-While.ensures.rows v) (c.in_ok-live-in-While-2.ensures.rows v) (c.in_ok-live-in-While-3.ensures.rows v)
    ∙ ap (λ x. live_after_each v x (has c.args.behind v) ++ column v c.args.rows.now.items) (sym (ap (λ n. then_tree n done) c.in-While.is ∙ while_is _ _ _))
