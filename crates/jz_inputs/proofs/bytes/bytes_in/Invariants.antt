use Rattle.std.proofs.Common.{◌≡◌, ◌-◌, ◌≤◌, ◌++◌}
use Rattle.jz_inputs.specs.Inputs.{range_of, bytes_from, bytes_in}
use Rattle.jz_inputs.proofs.bytes.bytes_in.Given as goal

abbrev pub invariant-loop-at : goal.invariant-loop-at
invariant-loop-at l =
    (l.at ≤ l.end) × (l.bytes.items ++ bytes_from l.memory l.at (l.end - l.at) ≡ bytes_in l.memory (range_of l.fn.region))

abbrev pub decreases-loop-at : goal.decreases-loop-at
decreases-loop-at l = l.end - l.at
