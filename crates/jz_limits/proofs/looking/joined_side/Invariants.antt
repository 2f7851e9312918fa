use Rattle.std.proofs.Common.{◌≡◌, length}
use Rattle.jz_limits.specs.InnerLooked.{seen_left, seen_of}
use Rattle.jz_limits.proofs.looking.joined_side.Given as goal

abbrev pub invariant-loop-op : goal.invariant-loop-op
invariant-loop-op l =
    seen_left l.asking l.operands.items (seen_of l.first)
    ≡ seen_left l.asking l.fn.side.operands.items (seen_of l.fn.side.first)

abbrev pub decreases-loop-op : goal.decreases-loop-op
decreases-loop-op l = length l.operands.items
