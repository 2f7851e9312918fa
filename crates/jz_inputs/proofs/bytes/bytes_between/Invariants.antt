use Rattle.std.proofs.Common.{◌-◌, ◌≤◌}
use Rattle.jz_inputs.specs.InnerFilled.{IsPiece}
use Rattle.jz_inputs.proofs.bytes.bytes_between.Given as goal

abbrev pub invariant-loop-at : goal.invariant-loop-at
invariant-loop-at l = (l.from ≤ l.at) × (l.at ≤ l.end) × IsPiece l.items l.from l.at l.bytes.items

abbrev pub decreases-loop-at : goal.decreases-loop-at
decreases-loop-at l = l.end - l.at
