use Rattle.std.proofs.Common.{take}
use Rattle.std.specs.Fn.{FnReturnsAt}
use Rattle.jz_data.specs.Maps.{Maps}
use Rattle.jz_data.proofs.mapping.try_map_slice.Given as goal

abbrev pub invariant-loop-item : goal.invariant-loop-item
invariant-loop-item g l = Maps (FnReturnsAt g.F.Fn l.f) (take l.item-index l.items) l.out
