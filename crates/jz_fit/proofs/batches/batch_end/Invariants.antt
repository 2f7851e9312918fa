use Rattle.std.proofs.Common.{◌≤◌, ◌<◌, ◌+◌, length}
use Rattle.jz_fit.proofs.batches.batch_end.Given as goal

abbrev pub invariant-loop-size : goal.invariant-loop-size
invariant-loop-size l = (0 < l.size) × (l.from + l.size ≤ length l.order)

abbrev pub decreases-loop-size : goal.decreases-loop-size
decreases-loop-size l = l.size
