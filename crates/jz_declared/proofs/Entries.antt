-- Lists with one item more, and entries of a table with one more.
use Rattle.std.proofs.Common.{◌≡◌, ◌⊎◌, inl, inr, ℕ, zero, suc, Bool, true, false, List, [], ◌∷◌, ◌++◌, length, Option, Some, None, refl, sym, ap, ◌∙◌}
use Rattle.std.specs.Prelude.{slice_get, if◌then◌else◌}
use Rattle.jz_meaning.specs.States.{Key, same_key}
use Rattle.jz_operations.proofs.Somes.{same_some}
use Rattle.jz_operands.specs.declared.homes.Home.{Home}
use Rattle.jz_operands.specs.TableHomes.{with_entry}
use Rattle.jz_homing.proofs.EntryLemmas.{keys_same, key_itself}

-- ---- lists
pub get_more : {A : Type 0} (xs : List A) (x : A) (n : ℕ) (y : A) → slice_get (xs ++ x ∷ []) n ≡ Some y → (slice_get xs n ≡ Some y) ⊎ ((n ≡ length xs) × (x ≡ y))
get_more [] x zero y e = inr (refl, same_some x y e)
get_more [] x (suc n) y e = absurd cc
get_more (z ∷ zs) x zero y e = inl e
get_more (z ∷ zs) x (suc n) y e = elim (get_more zs x n y e) [ inl h ↦ inl h | inr (p, q) ↦ inr (ap suc p, q) ]

pub get_before : {A : Type 0} (xs : List A) (x : A) (n : ℕ) (y : A) → slice_get xs n ≡ Some y → slice_get (xs ++ x ∷ []) n ≡ Some y
get_before [] x n y e = absurd cc
get_before (z ∷ zs) x zero y e = e
get_before (z ∷ zs) x (suc n) y e = get_before zs x n y e

pub get_last : {A : Type 0} (xs : List A) (x : A) → slice_get (xs ++ x ∷ []) (length xs) ≡ Some x
get_last [] x = refl
get_last (z ∷ zs) x = get_last zs x

-- ---- entries
stays_by : (b : Bool) (f : Key → Option Home) (k q : Key) (e x : Home) → f k ≡ None → f q ≡ Some x → same_key k q ≡ b → (if b then Some e else f q) ≡ Some x
stays_by true f k q e x fresh at s = absurd (let c : ◌≡◌ {A = Option Home} None (Some x) = sym fresh ∙ ap f (keys_same k q s) ∙ at in cc)
stays_by false f k q e x fresh at s = at

-- what was entered stays, where the new one is of what had none
pub stays : (f : Key → Option Home) (k q : Key) (e x : Home) → f k ≡ None → f q ≡ Some x → with_entry f k (Some e) q ≡ Some x
stays f k q e x fresh at = stays_by (same_key k q) f k q e x fresh at refl

pub entered : (f : Key → Option Home) (k : Key) (e : Home) → with_entry f k (Some e) k ≡ Some e
entered f k e = ap (λ b. if b then Some e else f k) (key_itself k)

came_by : (b : Bool) (f : Key → Option Home) (k q : Key) (e x : Home) → same_key k q ≡ b → (if b then Some e else f q) ≡ Some x → ((k ≡ q) × (e ≡ x)) ⊎ (f q ≡ Some x)
came_by true f k q e x s at = inl (keys_same k q s, same_some e x at)
came_by false f k q e x s at = inr at

pub came : (f : Key → Option Home) (k q : Key) (e x : Home) → with_entry f k (Some e) q ≡ Some x → ((k ≡ q) × (e ≡ x)) ⊎ (f q ≡ Some x)
came f k q e x at = came_by (same_key k q) f k q e x refl at

elsewhere_by : (b : Bool) (f : Key → Option Home) (k q : Key) (e : Home) → (k ≡ q → ⊥) → same_key k q ≡ b → (if b then Some e else f q) ≡ f q
elsewhere_by true f k q e never s = absurd (never (keys_same k q s))
elsewhere_by false f k q e never s = refl

pub elsewhere : (f : Key → Option Home) (k q : Key) (e : Home) → (k ≡ q → ⊥) → with_entry f k (Some e) q ≡ f q
elsewhere f k q e never = elsewhere_by (same_key k q) f k q e never refl
