use Rattle.std.proofs.Common.{◌≡◌, ◌++◌, drop}
use Rattle.jz_arrays.specs.Arrays.{places}
use Rattle.jz_scalars.proofs.numbers.numbers_left.Given as goal

abbrev pub invariant-loop-place : goal.invariant-loop-place
invariant-loop-place l = l.numbers ++ places l.place (drop l.place l.mask) ≡ places 0 l.mask
