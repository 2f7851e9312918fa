use Rattle.jz_type_names.specs.Names.{repeated_in_fun}
use Rattle.jz_types.specs.InnerFunctions.{unknown_with}
use Rattle.jz_type_names.specs.Tables.{place_in, function_in}
use Rattle.jz_resolve.specs.Tables.{values_in}
use Rattle.jz_resolve.specs.Numbering.{value_with}
use Rattle.jz_type_sizes.specs.Lengths.{fun_lengths}
use Rattle.jz_type_rows.specs.Exports.{misshapen_places, annotated_places}
use Rattle.jz_types.proofs.Joins.{first_more}
use Rattle.jz_types.proofs.functions.text_of_functions.Goals as goal

pub loop-fun-preserved : goal.loop-fun-preserved
loop-fun-preserved c =
    let places = place_in c.args.constants.now
    in let functions = function_in c.args.functions.now
    in let length = value_with (values_in c.args.lengths.now.table)
    in let funs = c.as_slice-fun-items.result.now
    in let i = c.loop-fun.fun-index
    in let fun = c.fun-item.result
    in let first = c.loop-fun.first
    in let within = c.loop-fun-test.true
    in let is = c.fun-item.is
    in let held = c.loop-fun.invariant
    in (
      first_more (unknown_with places functions) funs i fun first.unknown _ _ _ within is c.in_ok-unknown.ensures c.earlier_of.ensures.is held.0,
      first_more repeated_in_fun funs i fun first.repeated _ _ _ within is c.in_ok-repeated.ensures c.earlier_of-in-loop-fun.ensures.is held.1,
      first_more (fun_lengths places length) funs i fun first.mismatched _ _ _ within is c.in_ok-mismatched.ensures c.earlier_of-in-loop-fun-2.ensures.is held.2,
      first_more annotated_places funs i fun first.annotated _ _ _ within is c.in_ok-annotated.ensures c.earlier_of-in-loop-fun-3.ensures.is held.3,
      first_more misshapen_places funs i fun first.misshapen _ _ _ within is c.misshapen.ensures c.earlier_of-in-loop-fun-4.ensures.is held.4,
    )
