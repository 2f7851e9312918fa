use Rattle.std.proofs.Common.{◌≡◌, drop}
use Rattle.std.specs.Option.{option_or}
use Rattle.jz_type_sizes.specs.Intrinsics.{result_size}
use Rattle.jz_type_sizes.proofs.intrinsics.result_size.Given as goal

abbrev pub invariant-loop-side : goal.invariant-loop-side
invariant-loop-side l = option_or l.found (result_size l.rest (drop l.side-index l.to)) ≡ result_size l.fn.roles l.fn.to
