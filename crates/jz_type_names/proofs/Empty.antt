-- Lists of places that are empty.
use Rattle.std.proofs.Common.{◌≡◌, Bool, true, false, List, [], ◌∷◌, ◌++◌, flat_map, refl, ap₂}
use Rattle.std.specs.Prelude.{All, Contains}
use Rattle.std.proofs.lemmas.Bool.{false≢true}
use Rattle.std.proofs.lemmas.List.Elements.{All-nil, All-cons, All-head, All-tail, All-contains_itself}
use Rattle.jz_tree.specs.Span.{Span}
use Rattle.jz_type_names.specs.Order.{unless}

pub one_not : {A : Type 0} (x : A) (xs : List A) → (x ∷ xs) ≡ [] → ⊥
one_not x xs e = cc

pub both : (xs ys : List Span) → xs ++ ys ≡ [] → (xs ≡ []) × (ys ≡ [])
both [] ys e = (refl, e)
both (x ∷ xs) ys e = absurd (one_not x (xs ++ ys) e)

pub joined : (xs ys : List Span) → xs ≡ [] → ys ≡ [] → xs ++ ys ≡ []
joined xs ys p q = ap₂ (λ a b. a ++ b) p q

pub passed : (b : Bool) (at : Span) → unless b at ≡ [] → b ≡ true
passed true at e = refl
passed false at e = absurd (one_not at [] e)

pub passes : (b : Bool) (at : Span) → b ≡ true → unless b at ≡ []
passes true at e = refl
passes false at e = absurd (false≢true e)

pub all_empty : {A : Type 0} (f : A → List Span) (xs : List A) → flat_map f xs ≡ [] → All (λ x. f x ≡ []) xs
all_empty f [] e = All-nil (λ x. f x ≡ [])
all_empty f (x ∷ xs) e = let h = both (f x) (flat_map f xs) e in All-cons (λ y. f y ≡ []) x xs h.0 (all_empty f xs h.1)

pub empty_all : {A : Type 0} (f : A → List Span) (xs : List A) → All (λ x. f x ≡ []) xs → flat_map f xs ≡ []
empty_all f [] h = refl
empty_all f (x ∷ xs) h = joined (f x) (flat_map f xs) (All-head (λ y. f y ≡ []) x xs h) (empty_all f xs (All-tail (λ y. f y ≡ []) x xs h))

-- a list without members
pub no_member : (xs : List Span) → ((at : Span) → Contains xs at → ⊥) → xs ≡ []
no_member [] h = refl
no_member (x ∷ xs) h = absurd (h x (All-head (Contains (x ∷ xs)) x xs (All-contains_itself (x ∷ xs))))
