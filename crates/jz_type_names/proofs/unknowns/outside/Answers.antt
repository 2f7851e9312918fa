use Rattle.std.proofs.Common.{ap, ◌∙◌, map}
use Rattle.jz_type_names.specs.Order.{first_in}
use Rattle.jz_type_names.specs.Scopes.{name_of}
use Rattle.jz_type_names.specs.Lent.{these}
use Rattle.jz_type_names.specs.Tables.{place_in, value_in}
use Rattle.jz_type_names.specs.Names.{one_unknown}
use Rattle.jz_type_names.proofs.UnknownLaws.{outside_is}
use Rattle.jz_type_names.proofs.unknowns.outside.Goals as goal

pub returns : goal.returns
returns c =
    let values = value_in c.args.constants.now c.args.variables.now
    in let variables = place_in c.args.variables.now
    in c.earlier_of.ensures.is ∙ outside_is values variables c.args.fun.now _ _
    (c.unknown_values-unread.ensures ∙ ap (first_in (one_unknown values)) (ap (λ l. map name_of (these l)) c.as_slice.ensures.value ∙ c.in_ok-lengths.ensures))
    (c.unknown_variables-unset.ensures ∙ ap (first_in (one_unknown variables)) (ap (λ l. map name_of (these l)) c.as_slice-2.ensures.value ∙ c.in_ok-wanted.ensures))
