use Rattle.std.proofs.Common.{◌≡◌, ℕ, length, drop, ◌+◌, ◌*◌}
use Rattle.jz_bits.specs.Has.{has}
use Rattle.jz_ir.specs.Tree.{tree_of, then_tree, done}
use Rattle.jz_live.specs.InnerLives.{live_before, size}
use Rattle.jz_live.proofs.tree.+before.Given as goal

abbrev pub invariant-before_block-loop-i : goal.invariant-before_block-loop-i
invariant-before_block-loop-i l = (length l.live ≡ length l.fn.behind) × ((v : ℕ) → has l.live v ≡ live_before v (tree_of (drop l.i l.nodes)) (has l.fn.behind v))

abbrev pub decreases-before_block : goal.decreases-before_block
decreases-before_block l = 2 * size (tree_of l.nodes.now) + 1

abbrev pub decreases-before_node : goal.decreases-before_node
decreases-before_node l = 2 * size (then_tree l.node.now done)
