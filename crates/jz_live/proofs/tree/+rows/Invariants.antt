use Rattle.std.proofs.Common.{◌≡◌, ℕ, length, drop, ◌+◌, ◌*◌, ◌++◌}
use Rattle.std.specs.List.{All}
use Rattle.jz_bits.specs.Has.{has}
use Rattle.jz_ir.specs.Tree.{tree_of, then_tree, done}
use Rattle.jz_live.specs.InnerLives.{live_before, live_after_each, column, size}
use Rattle.jz_live.proofs.tree.+rows.Given as goal

abbrev pub invariant-rows_block-loop-i : goal.invariant-rows_block-loop-i
invariant-rows_block-loop-i l =
    (length l.live ≡ length l.fn.behind) × ((v : ℕ) → has l.live v ≡ live_before v (tree_of (drop l.i l.nodes)) (has l.fn.behind v))
    × ((v : ℕ) → column v l.rows.items ≡ live_after_each v (tree_of (drop l.i l.nodes)) (has l.fn.behind v) ++ column v l.initial.rows.items)
    × All (λ r. length r ≡ length l.fn.behind) l.rows.items

abbrev pub decreases-rows_block : goal.decreases-rows_block
decreases-rows_block l = 2 * size (tree_of l.nodes.now) + 1

abbrev pub decreases-rows_node : goal.decreases-rows_node
decreases-rows_node l = 2 * size (then_tree l.node.now done)
