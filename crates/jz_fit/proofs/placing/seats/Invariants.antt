use Rattle.std.proofs.Common.{◌≡◌, Some, map, take}
use Rattle.jz_ir.specs.Order.{number_of}
use Rattle.jz_fit.proofs.placing.seats.Given as goal

abbrev pub invariant-loop-number : goal.invariant-loop-number
invariant-loop-number l = map (λ p. Some (number_of p)) l.places ≡ take l.number-index l.numbers
