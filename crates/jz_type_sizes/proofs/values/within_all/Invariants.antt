use Rattle.std.proofs.Common.{◌≡◌, drop}
use Rattle.jz_type_names.specs.Order.{earlier, first_in}
use Rattle.jz_type_sizes.specs.Sides.{within, any_size}
use Rattle.jz_type_sizes.proofs.values.within_all.Given as goal

abbrev pub invariant-loop-side : goal.invariant-loop-side
invariant-loop-side l = earlier l.first (first_in (within any_size) (drop l.side-index l.side-items)) ≡ first_in (within any_size) l.to
