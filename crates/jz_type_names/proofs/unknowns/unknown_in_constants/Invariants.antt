use Rattle.std.proofs.Common.{◌≡◌, drop}
use Rattle.jz_type_names.specs.Order.{earlier, first_in}
use Rattle.jz_type_names.specs.Tables.{place_in}
use Rattle.jz_type_names.specs.Names.{unknown_in_constant}
use Rattle.jz_type_names.proofs.unknowns.unknown_in_constants.Given as goal

abbrev pub invariant-loop-constant : goal.invariant-loop-constant
invariant-loop-constant l =
    earlier l.first (first_in (unknown_in_constant (place_in l.fn.constants)) (drop l.constant-index l.constant-items))
    ≡ first_in (unknown_in_constant (place_in l.fn.constants)) l.fn.consts
