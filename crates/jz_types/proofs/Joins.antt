-- For loops over what a definition says by `flat_map`.
use Rattle.std.proofs.Common.{◌≡◌, ℕ, ◌+◌, ◌<◌, List, ◌∷◌, length, drop, get_or, Option, sym, ap, ◌∙◌}
use Rattle.std.proofs.lemmas.List.{drop_more}
use Rattle.jz_tree.specs.Span.{Span}
use Rattle.jz_type_names.specs.Order.{earlier, earliest, first_in}
use Rattle.jz_type_names.proofs.Earliest.{earlier-assoc}
pub use Rattle.jz_type_names.proofs.Earliest.{joining}

-- one item more
pub first_more : {A : Type 0} (g : A → List Span) (xs : List A) (i : ℕ) (x : A) (best own next all : Option Span)
    → i < length xs → x ≡ get_or xs i x → own ≡ earliest (g x) → next ≡ earlier best own
    → earlier best (first_in g (drop i xs)) ≡ all → earlier next (first_in g (drop (i + 1) xs)) ≡ all
first_more g xs i x best own next all lt is found joined held =
    let rest : Option Span = first_in g (drop (i + 1) xs) in
    let split : first_in g (drop i xs) ≡ earlier (earliest (g x)) rest = ap (first_in g) (drop_more xs i x lt ∙ ap (λ y. y ∷ drop (i + 1) xs) (sym is)) in
    ap (λ y. earlier y rest) (joined ∙ ap (earlier best) found) ∙ (earlier-assoc best (earliest (g x)) rest ∙ (ap (earlier best) (sym split) ∙ held))
