use Rattle.std.proofs.Common.{ap, ap₂, ◌∙◌}
use Rattle.jz_type_names.specs.Order.{earlier, earliest, first_in}
use Rattle.jz_type_names.specs.Tables.{place_in, function_in}
use Rattle.jz_type_names.proofs.Earliest.{first_over}
use Rattle.jz_type_names.proofs.UnknownLaws.{program_is, constants_are, functions_are}
use Rattle.jz_type_names.proofs.RepeatedLaws.{in_program_is}
use Rattle.jz_resolve.specs.Tables.{values_in}
use Rattle.jz_resolve.specs.Numbering.{value_with}
use Rattle.jz_type_sizes.specs.Mismatches.{constant_wrong, mismatched_as_read}
use Rattle.jz_type_sizes.proofs.Whole.{as_read_whole}
use Rattle.jz_type_rows.specs.Exports.{misshapen_places, annotated_places}
use Rattle.jz_types.proofs.checking.of_text.Goals as goal

pub returns : goal.returns
returns c =
    let p = c.args.program.now
    in let constants = c.in_ok-constants.constants
    in let functions = c.in_ok-functions.functions
    in let within = c.in_ok-within.ensures
    in record {
      unknown = c.earlier_of.ensures.is ∙ program_is p (place_in constants) (function_in functions) _ _ (constants_are constants p.consts c.in_ok-constants.ensures)
          (functions_are functions p.funs c.in_ok-functions.ensures) c.in_ok-unknown.ensures within.unknown;
      repeated = c.earlier_of-2.ensures.is ∙ in_program_is p _ _ c.in_ok-repeated.ensures within.repeated;
      mismatched = c.earlier_of-3.ensures.is ∙ ap₂ earlier (c.constants_fault-mismatched.ensures ∙ ap (first_in constant_wrong) c.as_slice.ensures) within.mismatched
          ∙ as_read_whole p (value_with (values_in c.in_ok-table.table)) constants c.in_ok-constants.ensures
          ∙ ap (λ v. earliest (mismatched_as_read (value_with v) p)) c.in_ok-table.ensures.values;
      annotated = within.annotated ∙ first_over annotated_places p.funs;
      misshapen = within.misshapen ∙ first_over misshapen_places p.funs;
    }
