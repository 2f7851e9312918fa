use Rattle.std.proofs.Common.{◌≡◌, ◌++◌}
use Rattle.jz_preconditions.specs.Stating.{pres_of}
use Rattle.jz_preconditions.proofs.judging.without_places.Given as goal

abbrev pub invariant-loop-one : goal.invariant-loop-one
invariant-loop-one l = l.pres ++ pres_of l.one-iterator.rest.items ≡ pres_of l.fn.stated
