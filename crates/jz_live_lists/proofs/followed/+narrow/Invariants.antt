use Rattle.std.proofs.Common.{◌≡◌, ◌+◌, ◌*◌, take}
use Rattle.jz_ir.specs.Tree.{tree_of, then_tree, done}
use Rattle.jz_live.specs.Lives.{size}
use Rattle.jz_live_lists.specs.Followed.{only_tree}
use Rattle.jz_live_lists.proofs.followed.+narrow.Given as goal

abbrev pub invariant-narrow_block-loop-i : goal.invariant-narrow_block-loop-i
invariant-narrow_block-loop-i l = tree_of l.made ≡ only_tree l.followed (tree_of (take l.i l.nodes))

abbrev pub decreases-narrow_block : goal.decreases-narrow_block
decreases-narrow_block l = 2 * size (tree_of l.nodes.now) + 1

abbrev pub decreases-narrow_node : goal.decreases-narrow_node
decreases-narrow_node l = 2 * size (then_tree l.node.now done)
