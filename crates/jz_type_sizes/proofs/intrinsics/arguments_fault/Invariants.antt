use Rattle.std.proofs.Common.{◌≡◌, drop}
use Rattle.jz_type_names.specs.Order.{earlier}
use Rattle.jz_type_sizes.specs.InnerFound.{first_beside}
use Rattle.jz_type_sizes.specs.Intrinsics.{argument_wrong, none_more}
use Rattle.jz_type_sizes.proofs.intrinsics.arguments_fault.Given as goal

abbrev pub invariant-loop-arg : goal.invariant-loop-arg
invariant-loop-arg l = earlier l.first (first_beside (argument_wrong l.size) none_more l.rest (drop l.arg-index l.args)) ≡ first_beside (argument_wrong l.size) none_more l.fn.roles l.fn.args
