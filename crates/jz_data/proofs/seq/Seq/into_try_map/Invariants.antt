use Rattle.std.proofs.Common.{◌≡◌, ◌++◌}
use Rattle.std.specs.Fn.{FnReturns}
use Rattle.jz_data.specs.Maps.{Maps}
use Rattle.jz_data.proofs.seq.Seq.into_try_map.Given as goal

abbrev pub invariant-loop-item : goal.invariant-loop-item
invariant-loop-item g l = Maps (λ x r. FnReturns g.F.Fn l.f (x, tt) r) l.yielded l.out × (l.yielded ++ l.item-iterator.rest.items ≡ l.fn.self)
