use Rattle.std.proofs.Common.{◌-◌, ◌≤◌}
use Rattle.jz_inputs.specs.InnerFilled.{FillsFrom}
use Rattle.jz_inputs.proofs.memory.fill.Given as goal

abbrev pub invariant-loop-at : goal.invariant-loop-at
invariant-loop-at l = (l.from ≤ l.at) × (l.at ≤ l.end) × FillsFrom l.items l.from l.at l.initial.memory l.memory

abbrev pub decreases-loop-at : goal.decreases-loop-at
decreases-loop-at l = l.end - l.at
