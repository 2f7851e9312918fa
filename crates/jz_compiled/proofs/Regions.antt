-- Facts about some items of a list, and about what becomes of them.
use Rattle.std.proofs.Common.{◌≡◌, ℕ, zero, suc, ◌<◌, ◌⊎◌, inl, inr, ⊎_elim, List, [], ◌∷◌, map, length, All, Any, get_or, refl, sym, subst, arith}
use Rattle.std.proofs.lemmas.List.Elements.{All-nil, All-cons, All-head, All-tail}

-- ---- all
pub all_from_map : {X Y : Type 0} (P : Y → Type 0) (f : X → Y) (xs : List X) → All P (map f xs) → All (λ x. P (f x)) xs
all_from_map P f [] h = All-nil (λ x. P (f x))
all_from_map P f (x ∷ xs) h = All-cons (λ y. P (f y)) x xs (All-head P (f x) (map f xs) h) (all_from_map P f xs (All-tail P (f x) (map f xs) h))

-- ---- some
first_or_later : {X : Type 0} (P : X → Type 0) (x : X) (xs : List X) (k : ℕ) (y : X) → k < length (x ∷ xs) → get_or (x ∷ xs) k y ≡ y → P y → P x ⊎ Any P xs
first_or_later P x xs zero y lt e p = inl (subst P (sym e) p)
first_or_later P x xs (suc k) y lt e p = inr (k, y, omega (arith, lt), e, p)

any_split : {X : Type 0} (P : X → Type 0) (x : X) (xs : List X) → Any P (x ∷ xs) → P x ⊎ Any P xs
any_split P x xs h = first_or_later P x xs h.0 h.1 h.2 h.3 h.4

any_here : {X : Type 0} (P : X → Type 0) (x : X) (xs : List X) → P x → Any P (x ∷ xs)
any_here P x xs p = (0, x, omega arith, refl, p)

any_later : {X : Type 0} (P : X → Type 0) (x : X) (xs : List X) → Any P xs → Any P (x ∷ xs)
any_later P x xs h = (suc h.0, h.1, omega (arith, h.2), h.3, h.4)

any_none : {X : Type 0} (P : X → Type 0) → Any P [] → ⊥
any_none P h = absurd (omega (arith, h.2))

pub any_map : {X Y : Type 0} (P : X → Type 0) (Q : Y → Type 0) (f : X → Y) → ((x : X) → P x → Q (f x)) → (xs : List X) → Any P xs → Any Q (map f xs)
any_map P Q f g [] h = absurd (any_none P h)
any_map P Q f g (x ∷ xs) h = ⊎_elim (λ p. any_here Q (f x) (map f xs) (g x p)) (λ l. any_later Q (f x) (map f xs) (any_map P Q f g xs l)) (any_split P x xs h)

pub any_from_map : {X Y : Type 0} (P : X → Type 0) (Q : Y → Type 0) (f : X → Y) → ((x : X) → Q (f x) → P x) → (xs : List X) → Any Q (map f xs) → Any P xs
any_from_map P Q f g [] h = absurd (any_none Q h)
any_from_map P Q f g (x ∷ xs) h = ⊎_elim (λ q. any_here P x xs (g x q)) (λ l. any_later P x xs (any_from_map P Q f g xs l)) (any_split Q (f x) (map f xs) h)
