-- Members of lists, and variables that differ.
use Rattle.std.proofs.Common.{◌≡◌, ◌⊎◌, inl, inr, ℕ, zero, suc, ◌<◌, Bool, true, false, List, [], ◌∷◌, ◌++◌, map, length, get_or, Contains, Some, refl, sym, ap, ◌∙◌, subst, arith, if◌then◌else◌}
use Rattle.std.specs.Prelude.{slice_get}
use Rattle.std.specs.List.{flat_map, filter}
use Rattle.jz_tree.specs.declared.expr.Var.{Var}
use Rattle.jz_meaning.specs.Values.{ref_of}
use Rattle.jz_operations.proofs.Somes.{same_some}
use Rattle.jz_declared.specs.Declared.{IsOther, AreOther, Differ}

-- ---- an item of a list
-- at some place
abbrev pub HasItem : {A : Type 0} → List A → A → Type 0
HasItem {A} xs x = (m : ℕ) × (slice_get xs m ≡ Some x)

got : {A : Type 0} (x : A) (xs : List A) (y : A) → HasItem xs y → HasItem (x ∷ xs) y
got x xs y h = (suc h.0, h.1)

in_either : {A : Type 0} (xs ys : List A) (m : ℕ) (y : A) → slice_get (xs ++ ys) m ≡ Some y → HasItem xs y ⊎ HasItem ys y
in_either [] ys m y e = inr (m, e)
in_either (x ∷ xs) ys zero y e = inl (zero, e)
in_either (x ∷ xs) ys (suc m) y e = elim (in_either xs ys m y e) [ inl h ↦ inl (got x xs y h) | inr h ↦ inr h ]

-- of what items become
pub record ComesFrom {A B : Type 0} (f : A → List B) (xs : List A) (y : B) : Type 0 where
  pub item : A
  pub among : Contains xs item
  pub among_its : HasItem (f item) y

later : {A : Type 0} (x : A) (xs : List A) (y : A) → Contains xs y → Contains (x ∷ xs) y
later x xs y h = (suc h.0, omega (arith, h.1), h.2)

pub from_items : {A B : Type 0} (f : A → List B) (xs : List A) (m : ℕ) (y : B) → slice_get (flat_map f xs) m ≡ Some y → ComesFrom f xs y
from_items f [] m y e = cc
from_items f (x ∷ xs) m y e = elim (in_either (f x) (flat_map f xs) m y e) [
  | inl h ↦ record { item = x; among = (0, omega arith, refl); among_its = h }
  | inr h ↦ more (from_items f xs h.0 y h.1)
]
  where
    more : ComesFrom f xs y → ComesFrom f (x ∷ xs) y
    more r = record { item = r.item; among = later x xs r.item r.among; among_its = r.among_its }

pub from_map : {A B : Type 0} (f : A → B) (xs : List A) (m : ℕ) (y : B) → slice_get (map f xs) m ≡ Some y → (x : A) × (f x ≡ y)
from_map f [] m y e = cc
from_map f (x ∷ xs) zero y e = (x, same_some (f x) y e)
from_map f (x ∷ xs) (suc m) y e = from_map f xs m y e

-- ---- variables that differ
other_at : (x : Var) (xs : List Var) → AreOther x xs → (j : ℕ) (y : Var) → j < length xs → get_or xs j y ≡ y → IsOther x y
other_at x [] h j y lt e = absurd (omega (arith, lt))
other_at x (z ∷ zs) h zero y lt e = subst (IsOther x) e h.0
other_at x (z ∷ zs) h (suc j) y lt e = other_at x zs h.1 j y (omega (arith, lt)) e

same_at : (xs : List Var) → Differ xs → (k j : ℕ) (x y : Var) → k < length xs → get_or xs k x ≡ x → j < length xs → get_or xs j y ≡ y → (ref_of x).name ≡ (ref_of y).name → (ref_of x).copy ≡ (ref_of y).copy → x ≡ y
same_at [] h k j x y lk ek lj ej names copies = absurd (omega (arith, lk))
same_at (z ∷ zs) h zero zero x y lk ek lj ej names copies = sym ek ∙ ej
same_at (z ∷ zs) h zero (suc j) x y lk ek lj ej names copies =
    absurd (other_at z zs h.0 j y (omega (arith, lj)) ej (ap (λ v. (ref_of v).name) ek ∙ names) (ap (λ v. (ref_of v).copy) ek ∙ copies))
same_at (z ∷ zs) h (suc k) zero x y lk ek lj ej names copies =
    absurd (other_at z zs h.0 k x (omega (arith, lk)) ek (ap (λ v. (ref_of v).name) ej ∙ sym names) (ap (λ v. (ref_of v).copy) ej ∙ sym copies))
same_at (z ∷ zs) h (suc k) (suc j) x y lk ek lj ej names copies = same_at zs h.1 k j x y (omega (arith, lk)) ek (omega (arith, lj)) ej names copies

-- two of one name in one copy are one
pub same_variable : (xs : List Var) → Differ xs → (x y : Var) → Contains xs x → Contains xs y → (ref_of x).name ≡ (ref_of y).name → (ref_of x).copy ≡ (ref_of y).copy → x ≡ y
same_variable xs h x y a b names copies = same_at xs h a.0 b.0 x y a.1 a.2 b.1 b.2 names copies

-- ---- what is left out has nothing
kept_by_test : {A B : Type 0} (f : A → List B) (keep : A → Bool) (x : A) (xs : List A) (b : Bool) → keep x ≡ b → (keep x ≡ false → f x ≡ []) → flat_map f (filter keep xs) ≡ flat_map f xs
    → flat_map f (if b then x ∷ filter keep xs else filter keep xs) ≡ f x ++ flat_map f xs
kept_by_test f keep x xs true t h e = ap (λ l. f x ++ l) e
kept_by_test f keep x xs false t h e = e ∙ ap (λ l. l ++ flat_map f xs) (sym (h t))

pub all_left : {A B : Type 0} (f : A → List B) (keep : A → Bool) (xs : List A) → ((x : A) → Contains xs x → keep x ≡ false → f x ≡ []) → flat_map f (filter keep xs) ≡ flat_map f xs
all_left f keep [] h = refl
all_left f keep (x ∷ xs) h = kept_by_test f keep x xs (keep x) refl (λ t. h x (0, omega arith, refl) t) (all_left f keep xs (λ y i t. h y (later x xs y i) t))
