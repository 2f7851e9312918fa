use Rattle.std.proofs.Common.{◌-◌, Some}
use Rattle.jz_layers.specs.Spots.{entry_in}
use Rattle.jz_layers.proofs.Covering.{Covered}
use Rattle.jz_fact_sets.specs.Kept.{known_at}
use Rattle.jz_fact_sets.specs.Meeting.{met_at}
use Rattle.jz_fact_sets.proofs.meeting.add_met.Given as goal

abbrev pub invariant-loop-i : goal.invariant-loop-i
invariant-loop-i l = Covered (λ k. Some (met_at l.a l.b (known_at l.set) k)) (entry_in l.fn.out) l.of.entries l.i (entry_in l.out)

abbrev pub decreases-loop-i : goal.decreases-loop-i
decreases-loop-i l = l.count - l.i
