use Rattle.std.proofs.Common.{◌≡◌, ◌≤◌, ◌-◌, ◌++◌, length, take, drop}
use Rattle.jz_alloc.specs.InnerNeeds.{insert_need}
use Rattle.jz_alloc.proofs.needs.add_need.Given as goal

abbrev pub invariant-loop-at : goal.invariant-loop-at
invariant-loop-at l = (l.at ≤ length l.needs.items) × (insert_need l.need l.needs.items ≡ take l.at l.needs.items ++ insert_need l.need (drop l.at l.needs.items))

abbrev pub decreases-loop-at : goal.decreases-loop-at
decreases-loop-at l = length l.needs.items - l.at
