use Rattle.std.proofs.Common.{◌≡◌, drop}
use Rattle.jz_type_sizes.specs.Intrinsics.{argument_size}
use Rattle.jz_type_sizes.proofs.intrinsics.argument_size.Given as goal

abbrev pub invariant-loop-arg : goal.invariant-loop-arg
invariant-loop-arg l = argument_size l.rest (drop l.arg-index l.args) ≡ argument_size l.fn.roles l.fn.args
