use Rattle.std.proofs.Common.{◌≤◌, ◌-◌, length}
use Rattle.jz_fit.specs.InnerSeats.{IsSeated}
use Rattle.jz_fit.proofs.fit.place_all.Given as goal

abbrev pub invariant-loop-from : goal.invariant-loop-from
invariant-loop-from l = (l.from ≤ length l.order) × IsSeated l.table l.order l.from l.seats

abbrev pub decreases-loop-from : goal.decreases-loop-from
decreases-loop-from l = length l.order - l.from
