-- The earliest of lists that are joined.
use Rattle.std.proofs.Common.{◌≡◌, ℕ, ◌+◌, ◌<◌, List, ◌∷◌, ◌++◌, length, flat_map, drop, get_or, Option, sym, ap, ◌∙◌}
use Rattle.std.proofs.lemmas.List.{drop_more}
use Rattle.jz_tree.specs.Span.{Span}
use Rattle.jz_type_names.specs.Order.{earlier, earliest}
use Rattle.jz_type_names.proofs.Earliest.{earlier-assoc, none-earlier, earlier-none, earliest-append, both_earliest}

pub ruleset earliest_laws = (earlier-assoc, none-earlier, earlier-none, earliest-append)

pub three_joined : (a b c : List Span) (x y z s r : Option Span) → x ≡ earliest a → y ≡ earliest b → z ≡ earliest c → s ≡ earlier y z → r ≡ earlier x s
    → r ≡ earliest (a ++ (b ++ c))
three_joined a b c x y z s r p q t u v =
    v ∙ (ap (earlier x) u ∙ both_earliest a (b ++ c) x (earlier y z) p (both_earliest b c y z q t))

-- one item more in a loop that takes the earliest
pub one_more : {A : Type 0} (g : A → List Span) (xs : List A) (i : ℕ) (x : A) (best next r all : Option Span)
    → i < length xs → x ≡ get_or xs i x → r ≡ earliest (g x) → next ≡ earlier best r
    → earlier best (earliest (flat_map g (drop i xs))) ≡ all → earlier next (earliest (flat_map g (drop (i + 1) xs))) ≡ all
one_more g xs i x best next r all lt is found joined held =
    let rest = flat_map g (drop (i + 1) xs) in
    let cons : flat_map g (drop i xs) ≡ g x ++ rest = ap (flat_map g) (drop_more xs i x lt ∙ ap (λ y. y ∷ drop (i + 1) xs) (sym is)) in
    ap (λ y. earlier y (earliest rest)) (joined ∙ ap (earlier best) found)
    ∙ (earlier-assoc best (earliest (g x)) (earliest rest)
    ∙ (ap (earlier best) (sym (ap earliest cons ∙ earliest-append (g x) rest)) ∙ held))
