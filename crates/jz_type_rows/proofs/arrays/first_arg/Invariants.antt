use Rattle.std.proofs.Common.{◌≡◌, drop}
use Rattle.jz_type_names.specs.Order.{earlier, first_in}
use Rattle.jz_type_rows.specs.Copies.{array_arg}
use Rattle.jz_type_rows.proofs.arrays.first_arg.Given as goal

abbrev pub invariant-loop-arg : goal.invariant-loop-arg
invariant-loop-arg l = earlier l.first (first_in array_arg (drop l.arg-index l.arg-items)) ≡ first_in array_arg l.fn.args
