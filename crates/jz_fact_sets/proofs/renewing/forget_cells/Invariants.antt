use Rattle.std.proofs.Common.{◌≡◌, ◌-◌}
use Rattle.jz_layers.specs.Spots.{spot_of}
use Rattle.jz_fact_sets.specs.Kept.{known_at}
use Rattle.jz_fact_sets.proofs.Forgetting.{ForgotTo}
use Rattle.jz_fact_sets.proofs.renewing.forget_cells.Given as goal

abbrev pub invariant-loop-i : goal.invariant-loop-i
invariant-loop-i l =
    (l.set.noted ≡ l.fn.set.noted)
    × (l.set.below.items ≡ l.fn.set.below.items)
    × ForgotTo l.fn.set.noted (spot_of l.named) l.all (known_at l.fn.set) l.i (known_at l.set)

abbrev pub decreases-loop-i : goal.decreases-loop-i
decreases-loop-i l = l.count - l.i
