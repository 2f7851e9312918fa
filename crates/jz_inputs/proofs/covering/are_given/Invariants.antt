use Rattle.std.proofs.Common.{◌≤◌, ◌-◌}
use Rattle.jz_inputs.specs.InnerCover.{AreGiven}
use Rattle.jz_inputs.proofs.covering.are_given.Given as goal

abbrev pub invariant-loop-at : goal.invariant-loop-at
invariant-loop-at l = AreGiven l.items l.from l.at × (l.from ≤ l.at)

abbrev pub decreases-loop-at : goal.decreases-loop-at
decreases-loop-at l = l.end - l.at
