use Rattle.std.proofs.Common.{◌≡◌, length}
use Rattle.jz_inline.specs.InnerWidths.{counted_left}
use Rattle.jz_inline.proofs.leaked.joined.Given as goal

abbrev pub invariant-loop-op : goal.invariant-loop-op
invariant-loop-op l = counted_left l.operands.items l.first ≡ counted_left l.fn.side.operands.items l.fn.side.first

abbrev pub decreases-loop-op : goal.decreases-loop-op
decreases-loop-op l = length l.operands.items
