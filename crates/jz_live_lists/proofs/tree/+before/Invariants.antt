use Rattle.std.proofs.Common.{◌≡◌, ℕ, drop, ◌+◌, ◌*◌}
use Rattle.jz_ir.specs.Paths.{among}
use Rattle.jz_ir.specs.Tree.{tree_of, then_tree, done}
use Rattle.jz_live.specs.Lives.{live_before, size}
use Rattle.jz_live_lists.proofs.tree.+before.Given as goal

abbrev pub invariant-before_block-loop-i : goal.invariant-before_block-loop-i
invariant-before_block-loop-i l = (v : ℕ) → among l.live v ≡ live_before v (tree_of (drop l.i l.nodes)) (among l.fn.behind v)

abbrev pub decreases-before_block : goal.decreases-before_block
decreases-before_block l = 2 * size (tree_of l.nodes.now) + 1

abbrev pub decreases-before_node : goal.decreases-before_node
decreases-before_node l = 2 * size (then_tree l.node.now done)
