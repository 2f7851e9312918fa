use Rattle.std.proofs.Common.{◌≡◌, ◌∙◌, sym, ap, ◌+◌, ◌*◌, ◌-◌, ◌<◌, length, arith, get_or, ◌++◌}
use Rattle.jz_ir.specs.Paths.{among}
use Rattle.jz_ir.specs.Tree.{then_tree, tree_of, done}
use Rattle.jz_live.specs.Lives.{live_before, live_after_each, size}
use Rattle.jz_live.proofs.Nodes.{one_more, size_at, afters_more, while_set, while_rows, while_is}
use Rattle.jz_live_lists.specs.InnerColumns.{column}
use Rattle.jz_live_lists.proofs.tree.+rows.Goals as goal

pub rows_block-rows_node-requires : goal.rows_block-rows_node-requires
rows_block-rows_node-requires t c =
    let d : 2 * size (tree_of c.args.nodes.now) + 1 ≡ t = c.decreases in
    let e = c.index-as_slice-i.is ∙ ap (λ x. get_or x (c.loop-i.i - 1) c.index-as_slice-i.result) c.as_slice.ensures in
    let lt : c.loop-i.i - 1 < length c.args.nodes.now = omega (arith, ap length c.as_slice.ensures) in
    let h : 2 * size (then_tree c.index-as_slice-i.result done) < t = omega (arith, size_at c.args.nodes.now (c.loop-i.i - 1) c.index-as_slice-i.result lt e) in
    (h, tt)

pub rows_block-loop-i-preserved : goal.rows_block-loop-i-preserved
rows_block-loop-i-preserved t c =
    let e = c.index-as_slice-i.is ∙ ap (λ x. get_or x (c.loop-i.i - 1) c.index-as_slice-i.result) c.as_slice.ensures in
    let lt : c.loop-i.i - 1 < length c.args.nodes.now = omega (arith, ap length c.as_slice.ensures) in (
      λ v. one_more v c.loop-i.i (c.loop-i.i - 1) c.args.nodes.now c.index-as_slice-i.result (among c.args.behind v) (among c.loop-i.live v) _ (omega arith) lt e (c.loop-i.invariant.0 v) (c.in_ok-live.ensures.set v),
      λ v. afters_more v c.loop-i.i (c.loop-i.i - 1) c.args.nodes.now c.index-as_slice-i.result (among c.args.behind v) (among c.loop-i.live v) (column v c.args.rows.now.items) (column v c.loop-i.rows.items) _ (omega arith) lt e (c.loop-i.invariant.0 v) (c.loop-i.invariant.1 v) (c.in_ok-live.ensures.rows v),
    )

pub rows_node-returns-in_ok-live-in-While-3-clause-set :
    goal.rows_node-returns-in_ok-live-in-While-3-clause-set
rows_node-returns-in_ok-live-in-While-3-clause-set t c = λ v.
    while_set v (tree_of c.in-While.prologue) c.in-While.test (tree_of c.in-While.body) (among c.args.behind v) (among c.new.result v) _ _ _ _ _ _ (ap (λ x. among x v) c.new.ensures) (c.in_ok-first-in-While.ensures v) (c.in_ok-at_test-in-While.ensures v) (c.in_ok-head-in-While.ensures v) (c.in_ok-live-in-While.ensures.set v) (c.in_ok-live-in-While-2.ensures.set v) (c.in_ok-live-in-While-3.ensures.set v)
    ∙ ap (λ x. live_before v x (among c.args.behind v)) (sym (ap (λ n. then_tree n done) c.in-While.is ∙ while_is _ _ _))

pub rows_node-returns-in_ok-live-in-While-3-clause-rows :
    goal.rows_node-returns-in_ok-live-in-While-3-clause-rows
rows_node-returns-in_ok-live-in-While-3-clause-rows t c = λ v.
    while_rows v (tree_of c.in-While.prologue) c.in-While.test (tree_of c.in-While.body) (among c.args.behind v) (among c.new.result v) _ _ _ _ _ _ (ap (λ x. among x v) c.new.ensures) (c.in_ok-first-in-While.ensures v) (c.in_ok-at_test-in-While.ensures v) (c.in_ok-head-in-While.ensures v) (c.in_ok-live-in-While.ensures.set v) (c.in_ok-live-in-While-2.ensures.set v) (c.in_ok-live-in-While-3.ensures.set v)
    _ _ _ _ (c.in_ok-live-in-While.ensures.rows v) (c.in_ok-live-in-While-2.ensures.rows v) (c.in_ok-live-in-While-3.ensures.rows v)
    ∙ ap (λ x. live_after_each v x (among c.args.behind v) ++ column v c.args.rows.now.items) (sym (ap (λ n. then_tree n done) c.in-While.is ∙ while_is _ _ _))
