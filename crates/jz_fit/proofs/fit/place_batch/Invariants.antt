use Rattle.std.proofs.Common.{◌≤◌}
use Rattle.jz_fit.specs.InnerSeats.{IsSeated}
use Rattle.jz_fit.proofs.fit.place_batch.Given as goal

abbrev pub invariant-loop-k : goal.invariant-loop-k
invariant-loop-k l = (l.from ≤ l.k) × (l.k ≤ l.to) × IsSeated l.table l.order l.k l.seats
