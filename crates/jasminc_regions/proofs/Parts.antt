-- A part of several that all hold.
use Rattle.std.proofs.Common.{◌≡◌, ℕ, zero, suc, ◌<◌, List, [], ◌∷◌, ◌++◌, length, get_or, flat_map, sym, subst, arith}
use Rattle.std.specs.Prelude.{All}
use Rattle.std.proofs.lemmas.List.Elements.{All-nil, All-cons, All-head, All-tail}

front_of : {A : Type 0} (P : A → Type 0) (xs ys : List A) → All P (xs ++ ys) → All P xs
front_of P [] ys h = All-nil P
front_of P (x ∷ xs) ys h = All-cons P x xs (All-head P x (xs ++ ys) h) (front_of P xs ys (All-tail P x (xs ++ ys) h))

rest_of : {A : Type 0} (P : A → Type 0) (xs ys : List A) → All P (xs ++ ys) → All P ys
rest_of P [] ys h = h
rest_of P (x ∷ xs) ys h = rest_of P xs ys (All-tail P x (xs ++ ys) h)

pub part_of : {A B : Type 0} (P : B → Type 0) (g : A → List B) (xs : List A) (i : ℕ) (x : A) → i < length xs → x ≡ get_or xs i x → All P (flat_map g xs) → All P (g x)
part_of P g [] i x lt is h = absurd (omega (arith, lt))
part_of P g (y ∷ ys) zero x lt is h = subst (λ z. All P (g z)) (sym is) (front_of P (g y) (flat_map g ys) h)
part_of P g (y ∷ ys) (suc i) x lt is h = part_of P g ys i x (omega (arith, lt)) is (rest_of P (g y) (flat_map g ys) h)
