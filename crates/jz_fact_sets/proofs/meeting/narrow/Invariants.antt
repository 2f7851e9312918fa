use Rattle.std.proofs.Common.{◌≡◌, ◌-◌}
use Rattle.jz_fact_sets.specs.Kept.{known_at}
use Rattle.jz_fact_sets.proofs.Tabled.{NarrowedTo, SameIf, FallsIf}
use Rattle.jz_fact_sets.proofs.meeting.narrow.Given as goal

abbrev pub invariant-loop-i : goal.invariant-loop-i
invariant-loop-i l =
    (l.set.below.items ≡ l.fn.set.below.items)
    × NarrowedTo l.turn (known_at l.fn.set) l.i (known_at l.set)
    × SameIf l.fell (known_at l.fn.set) (known_at l.set)
    × FallsIf l.fell (known_at l.fn.set) (known_at l.set)

abbrev pub decreases-loop-i : goal.decreases-loop-i
decreases-loop-i l = l.count - l.i
