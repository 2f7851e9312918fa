-- One more constant of a loop.
use Rattle.std.proofs.Common.{◌≡◌, ℕ, ◌+◌, ◌<◌, List, [], ◌∷◌, ◌++◌, refl, sym, ap, ◌∙◌, take, length, get_or}
use Rattle.std.proofs.lemmas.List.{take_more}
use Rattle.jz_tree.specs.declared.program.Const.{Const}
use Rattle.jz_type_names.specs.Scopes.{or_named}
use Rattle.jz_resolve.specs.Numbering.{Values, value_with, no_values, values_after, values_of}

after_last : (known : Values) (cs : List Const) (c : Const) → values_after known (cs ++ c ∷ []) ≡ or_named (values_after known cs) c.name (value_with (values_after known cs) c.value)
after_last known [] c = refl
after_last known (b ∷ cs) c = after_last (or_named known b.name (value_with known b.value)) cs c

pub one_more_value : (cs : List Const) (i : ℕ) (c : Const) (old new : Values) → i < length cs → c ≡ get_or cs i c → old ≡ values_of (take i cs)
    → new ≡ or_named old c.name (value_with old c.value) → new ≡ values_of (take (i + 1) cs)
one_more_value cs i c old new lt is before now =
    now
    ∙ ap (λ known. or_named known c.name (value_with known c.value)) before
    ∙ sym (after_last no_values (take i cs) c)
    ∙ ap (λ d. values_of (take i cs ++ d ∷ [])) is
    ∙ ap values_of (sym (take_more cs i c lt))
