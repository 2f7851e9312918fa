-- A list of what a function makes of items, item by item.
use Rattle.std.proofs.Common.{◌≡◌, ℕ, ◌+◌, ◌<◌, List, [], ◌∷◌, ◌++◌, map, drop, length, get_or, ap, sym, ◌∙◌, append_assoc}
use Rattle.std.proofs.lemmas.List.{at_drop_more}

pub mapped_more : {A B : Type 0} (f : A → B) (xs : List A) (i : ℕ) (x : A) (y : B) (old new all : List B) → i < length xs → x ≡ get_or xs i x
    → new ≡ old ++ y ∷ [] → y ≡ f x → old ++ map f (drop i xs) ≡ all → new ++ map f (drop (i + 1) xs) ≡ all
mapped_more {A} {B} f xs i x y old new all l e made is before =
    let rest = map f (drop (i + 1) xs) in
    let here : drop i xs ≡ x ∷ drop (i + 1) xs = at_drop_more (λ ys. ys) xs i x l ∙ ap (λ (z : A). z ∷ drop (i + 1) xs) (sym e) in
    ap (λ (ys : List B). ys ++ rest) made
    ∙ append_assoc old (y ∷ []) rest
    ∙ ap (λ (z : B). old ++ z ∷ rest) is
    ∙ sym (ap (λ (ys : List A). old ++ map f ys) here)
    ∙ before
