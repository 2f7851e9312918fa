use Rattle.std.proofs.Common.{◌≡◌, drop}
use Rattle.jz_type_names.specs.Order.{earlier}
use Rattle.jz_type_sizes.specs.InnerFound.{first_beside}
use Rattle.jz_type_sizes.specs.Sides.{within, any_size}
use Rattle.jz_type_sizes.specs.Intrinsics.{result_wrong}
use Rattle.jz_type_sizes.proofs.intrinsics.results_fault.Given as goal

abbrev pub invariant-loop-side : goal.invariant-loop-side
invariant-loop-side l = earlier l.first (first_beside (result_wrong l.size l.at) (within any_size) l.rest (drop l.side-index l.to)) ≡ first_beside (result_wrong l.size l.at) (within any_size) l.fn.roles l.fn.to
