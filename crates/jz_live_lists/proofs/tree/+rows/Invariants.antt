use Rattle.std.proofs.Common.{◌≡◌, ℕ, drop, ◌+◌, ◌*◌, ◌++◌}
use Rattle.jz_ir.specs.Paths.{among}
use Rattle.jz_ir.specs.Tree.{tree_of, then_tree, done}
use Rattle.jz_live.specs.Lives.{live_before, live_after_each, size}
use Rattle.jz_live_lists.specs.InnerColumns.{column}
use Rattle.jz_live_lists.proofs.tree.+rows.Given as goal

abbrev pub invariant-rows_block-loop-i : goal.invariant-rows_block-loop-i
invariant-rows_block-loop-i l =
    ((v : ℕ) → among l.live v ≡ live_before v (tree_of (drop l.i l.nodes)) (among l.fn.behind v))
    × ((v : ℕ) → column v l.rows.items ≡ live_after_each v (tree_of (drop l.i l.nodes)) (among l.fn.behind v) ++ column v l.initial.rows.items)

abbrev pub decreases-rows_block : goal.decreases-rows_block
decreases-rows_block l = 2 * size (tree_of l.nodes.now) + 1

abbrev pub decreases-rows_node : goal.decreases-rows_node
decreases-rows_node l = 2 * size (then_tree l.node.now done)
