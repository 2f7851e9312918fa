use Rattle.std.proofs.Common.{◌≡◌, ◌+◌, ◌*◌, ◌++◌, take}
use Rattle.jz_ir.specs.Tree.{tree_of, then_tree, done}
use Rattle.jz_live.specs.Lives.{size}
use Rattle.jz_live_lists.specs.InnerOps.{ops_in}
use Rattle.jz_live_lists.proofs.flat.+collect.Given as goal

abbrev pub invariant-collect_block-loop-i : goal.invariant-collect_block-loop-i
invariant-collect_block-loop-i l = l.ops ≡ l.initial.ops ++ ops_in (tree_of (take l.i l.nodes))

abbrev pub decreases-collect_block : goal.decreases-collect_block
decreases-collect_block l = 2 * size (tree_of l.nodes.now) + 1

abbrev pub decreases-collect_node : goal.decreases-collect_node
decreases-collect_node l = 2 * size (then_tree l.node.now done)
