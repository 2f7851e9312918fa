use Rattle.std.proofs.Common.{length, ◌-◌}
use Rattle.jz_type_storage.proofs.Spread.{Spread}
use Rattle.jz_type_storage.proofs.reaching.reach.Given as goal

abbrev pub invariant-loop-head : goal.invariant-loop-head
invariant-loop-head l = Spread l.graph l.start l.found.marks.items l.found.order.items l.head

abbrev pub decreases-loop-head : goal.decreases-loop-head
decreases-loop-head l = length l.graph - l.head
