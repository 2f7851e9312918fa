use Rattle.std.proofs.Common.{◌≡◌, drop}
use Rattle.jz_type_names.specs.Order.{earlier, first_in}
use Rattle.jz_type_rows.specs.Copies.{array_left}
use Rattle.jz_type_rows.proofs.arrays.first_left.Given as goal

abbrev pub invariant-loop-to : goal.invariant-loop-to
invariant-loop-to l = earlier l.first (first_in array_left (drop l.to-index l.to-items)) ≡ first_in array_left l.fn.tos
