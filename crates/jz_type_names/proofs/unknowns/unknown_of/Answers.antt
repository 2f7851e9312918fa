use Rattle.std.proofs.Common.{ap, ◌∙◌, map}
use Rattle.jz_type_names.specs.Order.{earlier, first_in}
use Rattle.jz_type_names.specs.Scopes.{name_of}
use Rattle.jz_type_names.specs.Parts.{layer_of}
use Rattle.jz_type_names.specs.Lent.{these}
use Rattle.jz_type_names.specs.Tables.{place_in, value_in, function_in}
use Rattle.jz_type_names.specs.Names.{one_unknown}
use Rattle.jz_type_names.proofs.UnknownLaws.{where_is}
use Rattle.jz_type_names.proofs.unknowns.unknown_of.Goals as goal

pub returns : goal.returns
returns c =
    let values = value_in c.args.constants.now c.args.variables.now
    in let variables = place_in c.args.variables.now
    in c.earlier_of-2.ensures.is ∙ (ap (earlier c.unknown_values-unread.result) c.earlier_of.ensures.is
    ∙ where_is values variables (function_in c.args.functions.now) (layer_of c.args.stmt.now) _ _ _
    (c.unknown_values-unread.ensures ∙ ap (first_in (one_unknown values)) (ap (λ l. map name_of (these l)) c.as_slice.ensures.value ∙ c.in_ok-read.ensures))
    (c.unknown_variables-unset.ensures ∙ ap (first_in (one_unknown variables)) (ap (λ l. map name_of (these l)) c.as_slice-2.ensures.value ∙ c.in_ok-wanted.ensures))
    c.unknown_function-uncalled.ensures)
