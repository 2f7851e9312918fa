use Rattle.std.proofs.Common.{◌≡◌, length}
use Rattle.jz_scalars.specs.InnerMasks.{masked_left}
use Rattle.jz_scalars.proofs.masks.joined.Given as goal

abbrev pub invariant-loop-op : goal.invariant-loop-op
invariant-loop-op l = masked_left l.operands.items l.first ≡ masked_left l.fn.side.operands.items l.fn.side.first

abbrev pub decreases-loop-op : goal.decreases-loop-op
decreases-loop-op l = length l.operands.items
