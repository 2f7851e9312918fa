use Rattle.std.proofs.Common.{ap, ◌∙◌, map}
use Rattle.jz_type_names.specs.Order.{first_in, earliest}
use Rattle.jz_type_names.specs.Scopes.{name_of, places_of}
use Rattle.jz_type_names.specs.Lent.{these}
use Rattle.jz_type_names.specs.Tables.{place_in}
use Rattle.jz_type_names.specs.Names.{unknown_value}
use Rattle.jz_type_names.proofs.UnknownLaws.{constant_is}
use Rattle.jz_type_names.proofs.unknowns.in_constant.Goals as goal

pub returns : goal.returns
returns c =
    let at = unknown_value (place_in c.args.constants.now) c.args.constant.now.span
    in c.earlier_of.ensures.is ∙ constant_is (place_in c.args.constants.now) c.args.constant.now _ _
    (c.unknown_in_values-unread.ensures ∙ ap (first_in at) (ap (λ l. map name_of (these l)) c.as_slice.ensures.value ∙ c.in_ok-read.ensures))
    (c.first_place.ensures ∙ ap (λ ns. earliest (places_of ns)) (ap (λ l. map name_of (these l)) c.as_slice-2.ensures.value ∙ c.in_ok-indexed.ensures))
