use Rattle.std.proofs.Common.{◌≡◌, drop}
use Rattle.jz_type_names.specs.Order.{earlier, first_in}
use Rattle.jz_type_names.specs.Names.{repeated_in_fun}
use Rattle.jz_types.specs.InnerFunctions.{unknown_with}
use Rattle.jz_type_names.specs.Tables.{place_in, function_in}
use Rattle.jz_resolve.specs.Tables.{values_in}
use Rattle.jz_resolve.specs.Numbering.{value_with}
use Rattle.jz_type_sizes.specs.Lengths.{fun_lengths}
use Rattle.jz_type_rows.specs.Exports.{misshapen_places, annotated_places}
use Rattle.jz_types.proofs.functions.text_of_functions.Given as goal

abbrev pub invariant-loop-fun : goal.invariant-loop-fun
invariant-loop-fun l =
    let places = place_in l.fn.constants
    in let functions = function_in l.fn.functions
    in let length = value_with (values_in l.fn.lengths.table)
    in let rest = drop l.fun-index l.fun-items
    in let all = l.fn.program.funs
    in (earlier l.first.unknown (first_in (unknown_with places functions) rest)
    ≡ first_in (unknown_with places functions) all)
    × (earlier l.first.repeated (first_in repeated_in_fun rest) ≡ first_in repeated_in_fun all)
    × (earlier l.first.mismatched (first_in (fun_lengths places length) rest) ≡ first_in (fun_lengths places length) all)
    × (earlier l.first.annotated (first_in annotated_places rest) ≡ first_in annotated_places all)
    × (earlier l.first.misshapen (first_in misshapen_places rest) ≡ first_in misshapen_places all)
