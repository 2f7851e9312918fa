-- One item more of a loop, and what lists of pieces contain.
use Rattle.std.proofs.Common.{◌≡◌, ◌<◌, ◌+◌, ℕ, zero, suc, List, [], ◌∷◌, ◌++◌, Option, length, get_or, drop, flat_map, sym, ap, ◌∙◌, subst, arith, append_assoc, drop-cons}
use Rattle.std.specs.Prelude.{Contains}
use Rattle.std.proofs.lemmas.List.{map-append, drop_more}
use Rattle.std.proofs.lemmas.List.Elements.{Contains-append_left, Contains-append_right}
use Rattle.std.specs.Borrow.{Bor}
use Rattle.jz_tree.specs.Span.{Span}
use Rattle.jz_type_names.specs.Order.{earlier, earliest, first_in}
use Rattle.jz_type_names.specs.Lent.{these}
use Rattle.jz_type_names.proofs.Earliest.{earlier-assoc, first_over, first_in-is}

-- what is left of the items begins with what this one gives
pub next_item : {X A : Type 0} (f : X → List A) (out whole : List A) (xs : List X) (i : ℕ) (x : X)
    → i < length xs → x ≡ get_or xs i x → out ++ flat_map f (drop i xs) ≡ whole → (out ++ f x) ++ flat_map f (drop (i + 1) xs) ≡ whole
next_item f out whole xs i x lt e h =
    let step : flat_map f (drop i xs) ≡ f x ++ flat_map f (drop (suc i) xs) =
    ap (flat_map f) (drop-cons xs i x lt) ∙ ap (λ y. f y ++ flat_map f (drop (suc i) xs)) (sym e)
    in let one : i + 1 ≡ suc i = omega arith
    in ap (λ j. (out ++ f x) ++ flat_map f (drop j xs)) one ∙ (append_assoc out (f x) _ ∙ (ap (λ l. out ++ l) (sym step) ∙ h))

pub these-push : {A : Type 0} (xs : List (Bor A)) (x : Bor A) → these (xs ++ x ∷ []) ≡ these xs ++ x.now ∷ []
these-push xs x = map-append (λ x. x.now) xs (x ∷ [])

-- ---- what a list of pieces contains
pub in_flat : {X A : Type 0} (f : X → List A) (xs : List X) (x : X) (a : A) → Contains xs x → Contains (f x) a → Contains (flat_map f xs) a
in_flat f [] x a (k, lt, e) c = absurd (omega (arith, lt))
in_flat f (y ∷ ys) x a (zero, lt, e) c = Contains-append_left (f y) (flat_map f ys) a (subst (λ z. Contains (f z) a) (sym e) c)
in_flat f (y ∷ ys) x a (suc k, lt, e) c = Contains-append_right (f y) (flat_map f ys) a (in_flat f ys x a (k, omega (arith, lt), e) c)

-- ---- loops that take the earliest: of the places of items as `first_in`, and as `flat_map`
pub first_more : {A : Type 0} (g : A → List Span) (xs : List A) (i : ℕ) (x : A) (best own next all : Option Span)
    → i < length xs → x ≡ get_or xs i x → own ≡ earliest (g x) → next ≡ earlier best own
    → earlier best (first_in g (drop i xs)) ≡ all → earlier next (first_in g (drop (i + 1) xs)) ≡ all
first_more g xs i x best own next all lt is found joined held =
    let rest : Option Span = first_in g (drop (i + 1) xs) in
    let split : first_in g (drop i xs) ≡ earlier (earliest (g x)) rest = ap (first_in g) (drop_more xs i x lt ∙ ap (λ y. y ∷ drop (i + 1) xs) (sym is)) in
    ap (λ y. earlier y rest) (joined ∙ ap (earlier best) found) ∙ (earlier-assoc best (earliest (g x)) rest ∙ (ap (earlier best) (sym split) ∙ held))

pub one_more : {A : Type 0} (g : A → List Span) (xs : List A) (i : ℕ) (x : A) (best own next all : Option Span)
    → i < length xs → x ≡ get_or xs i x → own ≡ earliest (g x) → next ≡ earlier best own
    → earlier best (earliest (flat_map g (drop i xs))) ≡ all → earlier next (earliest (flat_map g (drop (i + 1) xs))) ≡ all
one_more g xs i x best own next all lt is found joined held =
    ap (earlier next) (first_in-is g (drop (i + 1) xs))
    ∙ first_more g xs i x best own next all lt is found joined (ap (earlier best) (first_over g (drop i xs)) ∙ held)
