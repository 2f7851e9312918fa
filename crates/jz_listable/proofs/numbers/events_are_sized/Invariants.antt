use Rattle.std.proofs.Common.{◌≡◌, take, true}
use Rattle.jz_listing.specs.Listable.{outs_fit}
use Rattle.jz_listable.proofs.numbers.events_are_sized.Given as goal

abbrev pub invariant-loop-out : goal.invariant-loop-out
invariant-loop-out l = outs_fit (take l.out-index l.out-items) ≡ true
