use Rattle.std.proofs.Common.{◌-◌, ◌<◌, ◌≤◌}
use Rattle.jz_inputs.specs.InnerFilled.{AreFree}
use Rattle.jz_inputs.proofs.memory.end_of_free.Given as goal

abbrev pub invariant-loop-at : goal.invariant-loop-at
invariant-loop-at l = (l.from < l.at) × (l.at ≤ l.end) × AreFree l.memory l.from l.at

abbrev pub decreases-loop-at : goal.decreases-loop-at
decreases-loop-at l = l.end - l.at
