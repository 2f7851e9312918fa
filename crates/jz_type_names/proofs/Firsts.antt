-- The earliest place of two kinds of places, and of a list.
use Rattle.std.proofs.Common.{◌≡◌, ◌<◌, ◌⊎◌, inl, inr, Bool, true, false, List, [], ◌∷◌, Option, Some, refl, subst, arith}
use Rattle.std.specs.Prelude.{if◌then◌else◌, ◌↔◌, Contains}
use Rattle.std.proofs.lemmas.List.Elements.{Contains-append_left, Contains-append_right, Contains-append_cases, Contains-push, Contains-push_cases}
use Rattle.jz_tree.specs.Span.{Span}
use Rattle.jz_type_names.specs.Order.{is_before, earlier, earliest, IsEarliest, nowhere, here}
use Rattle.jz_type_names.proofs.Standing.{AtLeast, before_is, at_least, least_least}

pub same_wrong : (A B : Span → Type 0) → ((at : Span) → A at ↔ B at) → (o : Option Span) → IsEarliest A o → IsEarliest B o
same_wrong A B e o (nowhere none) = nowhere (λ at b. none at ((e at).1 b))
same_wrong A B e o (here {at = at} a least) = here ((e at).0 a) (λ there b. least there ((e there).1 b))

module _ (A B : Span → Type 0) where
  abbrev pub OneOf : Span → Type 0
  OneOf at = A at ⊎ B at

  two_here : (x y : Span) (b : Bool) → is_before y x ≡ b → A x → B y → ((there : Span) → A there → AtLeast x there) → ((there : Span) → B there → AtLeast y there)
      → IsEarliest OneOf (if b then Some y else Some x)
  two_here x y true e a b p q = here (inr b) (λ there w. elim w [
    | inl v ↦ least_least y x there (inl (before_is y x e)) (p there v)
    | inr v ↦ q there v
  ])
  two_here x y false e a b p q = here (inl a) (λ there w. elim w [
    | inl v ↦ p there v
    | inr v ↦ least_least x y there (at_least x y e) (q there v)
  ])

  pub earlier_of_two : (x y : Option Span) → IsEarliest A x → IsEarliest B y → IsEarliest OneOf (earlier x y)
  earlier_of_two x y (nowhere n) (nowhere m) = nowhere (λ at w. elim w [ inl a ↦ n at a | inr b ↦ m at b ])
  earlier_of_two x y (nowhere n) (here b q) = here (inr b) (λ there w. elim w [ inl a ↦ absurd (n there a) | inr v ↦ q there v ])
  earlier_of_two x y (here a p) (nowhere m) = here (inl a) (λ there w. elim w [ inl v ↦ p there v | inr b ↦ absurd (m there b) ])
  earlier_of_two x y (here {at = s} a p) (here {at = t} b q) = two_here s t (is_before t s) refl a b p q

-- ---- of a list
contains_none : {X : Type 0} (y : X) → Contains [] y → ⊥
contains_none y h = let lt : h.0 < 0 = h.1 in omega arith

contains_from : {X : Type 0} (x : X) (xs : List X) (y : X) → (x ≡ y) ⊎ Contains xs y → Contains (x ∷ xs) y
contains_from x xs y (inl e) = subst (λ z. Contains (x ∷ xs) z) e (Contains-append_left (x ∷ []) xs x (Contains-push [] x))
contains_from x xs y (inr h) = Contains-append_right (x ∷ []) xs y h

contains_cases : {X : Type 0} (x : X) (xs : List X) (y : X) → Contains (x ∷ xs) y → (x ≡ y) ⊎ Contains xs y
contains_cases x xs y h =
    elim (Contains-append_cases (x ∷ []) xs y h)
    [ inl a ↦ elim (Contains-push_cases [] x y a) [ inl b ↦ absurd (contains_none y b) | inr e ↦ inl e ] | inr b ↦ inr b ]

only_one : (x : Span) → IsEarliest (λ at. x ≡ at) (Some x)
only_one x = here refl (λ there e. inr e)

pub earliest_is : (xs : List Span) → IsEarliest (λ at. Contains xs at) (earliest xs)
earliest_is [] = nowhere (λ at c. contains_none at c)
earliest_is (x ∷ xs) =
    same_wrong (OneOf (λ at. x ≡ at) (λ at. Contains xs at)) (λ at. Contains (x ∷ xs) at) (λ at. (contains_from x xs at, contains_cases x xs at))
    (earlier (Some x) (earliest xs)) (earlier_of_two (λ at. x ≡ at) (λ at. Contains xs at) (Some x) (earliest xs) (only_one x) (earliest_is xs))
