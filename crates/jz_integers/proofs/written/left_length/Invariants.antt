use Rattle.std.proofs.Common.{◌<◌, ◌^◌, ◌-◌}
use Rattle.jz_integers.proofs.written.left_length.Given as goal

abbrev pub invariant-loop-rest : goal.invariant-loop-rest
invariant-loop-rest l = l.length < 2 ^ 32 - 1
