use Rattle.std.proofs.Common.{◌≡◌, drop}
use Rattle.jz_type_names.specs.Order.{earlier, first_in}
use Rattle.jz_type_sizes.specs.Mismatches.{constant_wrong}
use Rattle.jz_type_sizes.proofs.functions.constants_fault.Given as goal

abbrev pub invariant-loop-constant : goal.invariant-loop-constant
invariant-loop-constant l = earlier l.first (first_in constant_wrong (drop l.constant-index l.constants)) ≡ first_in constant_wrong l.fn.constants
