use Rattle.std.proofs.Common.{◌≡◌, drop}
use Rattle.jz_type_names.specs.Order.{earlier}
use Rattle.jz_type_sizes.specs.InnerFound.{first_beside}
use Rattle.jz_type_sizes.specs.Intrinsics.{none_more}
use Rattle.jz_type_sizes.specs.Calls.{passed_wrong}
use Rattle.jz_type_sizes.proofs.calls.all_passed_fault.Given as goal

abbrev pub invariant-loop-arg : goal.invariant-loop-arg
invariant-loop-arg l = earlier l.first (first_beside passed_wrong none_more l.rest (drop l.arg-index l.args)) ≡ first_beside passed_wrong none_more l.fn.params l.fn.args
