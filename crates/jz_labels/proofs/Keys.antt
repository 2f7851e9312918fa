-- Lists of keys, and the public ones of them.
use Rattle.std.proofs.Common.{◌≡◌, ◌⊎◌, inl, inr, ℕ, suc, ◌≤◌, Bool, true, false, ◌&&◌, ◌||◌, List, [], ◌∷◌, ◌++◌, Option, Some, None, refl, sym, ◌∙◌, ap, eqb-true, arith, subst}
use Rattle.std.specs.Prelude.{◌==◌}
use Rattle.std.specs.Str.{bytes_eq}
use Rattle.std.proofs.lemmas.Bool.{and_parts, false≢true}
use Rattle.std.proofs.lemmas.Slice.Eq.{bytes_eq-Decides}
use Rattle.jz_meaning.specs.States.{Key, same_cell, same_key}
use Rattle.jz_flow.specs.Sets.{common}
use Rattle.jz_labels.specs.Labels.{Publics}

cells_same : (a b : Option ℕ) → same_cell a b ≡ true → a ≡ b
cells_same None None e = refl
cells_same None (Some j) e = absurd (false≢true e)
cells_same (Some i) None e = absurd (false≢true e)
cells_same (Some i) (Some j) e = ap Some (eqb-true i j e)

pub keys_same : (a b : Key) → same_key a b ≡ true → a ≡ b
keys_same a b e =
    let p = and_parts (bytes_eq a.name b.name) _ e in
    let q = and_parts (a.copy == b.copy) _ p.1 in
    let n : a.name ≡ b.name = (bytes_eq-Decides a.name b.name).0 p.0 in
    let c : a.copy ≡ b.copy = eqb-true a.copy b.copy q.0 in
    let d : a.cell ≡ b.cell = cells_same a.cell b.cell q.1 in
    λ i. record { name = n i; copy = c i; cell = d i }

abbrev pub is_among : Key → List Key → Bool
is_among q [] = false
is_among q (k ∷ ks) = same_key q k || is_among q ks

neither_left : (a b : Bool) → (a || b) ≡ false → a ≡ false
neither_left true b e = absurd (cc e)
neither_left false b e = refl

neither_right : (a b : Bool) → (a || b) ≡ false → b ≡ false
neither_right true b e = absurd (cc e)
neither_right false b e = e

either : (a b : Bool) → (a || b) ≡ true → (a ≡ true) ⊎ (b ≡ true)
either true b e = inl refl
either false b e = inr e

neither : (a b : Bool) → a ≡ false → b ≡ false → (a || b) ≡ false
neither true b e f = absurd (cc e)
neither false b e f = f

pub not_head : (q k : Key) (ks : List Key) → is_among q (k ∷ ks) ≡ false → same_key q k ≡ false
not_head q k ks e = neither_left (same_key q k) (is_among q ks) e

pub not_tail : (q k : Key) (ks : List Key) → is_among q (k ∷ ks) ≡ false → is_among q ks ≡ false
not_tail q k ks e = neither_right (same_key q k) (is_among q ks) e

pub not_left : (q : Key) (ks ls : List Key) → is_among q (ks ++ ls) ≡ false → is_among q ks ≡ false
not_left q [] ls e = refl
not_left q (k ∷ ks) ls e =
    neither (same_key q k) (is_among q ks) (neither_left (same_key q k) (is_among q (ks ++ ls)) e)
    (not_left q ks ls (neither_right (same_key q k) (is_among q (ks ++ ls)) e))

pub not_right : (q : Key) (ks ls : List Key) → is_among q (ks ++ ls) ≡ false → is_among q ls ≡ false
not_right q [] ls e = e
not_right q (k ∷ ks) ls e = not_right q ks ls (neither_right (same_key q k) (is_among q (ks ++ ls)) e)

-- ---- how many of these are public

abbrev pub one_more_if : Bool → ℕ → ℕ
one_more_if true n = suc n
one_more_if false n = n

abbrev pub count : List Key → Publics → ℕ
count [] x = 0
count (k ∷ ks) x = one_more_if (x k) (count ks x)

fewer_or_same : (a b : Bool) (m n : ℕ) → m ≤ n → one_more_if (a && b) m ≤ one_more_if a n
fewer_or_same true true m n h = omega (arith, h)
fewer_or_same true false m n h = omega (arith, h)
fewer_or_same false b m n h = h

pub count_less : (ks : List Key) (x y : Publics) → count ks (common x y) ≤ count ks x
count_less [] x y = omega (arith)
count_less (k ∷ ks) x y = fewer_or_same (x k) (y k) (count ks (common x y)) (count ks x) (count_less ks x y)

-- what x has of these y has too
abbrev pub Stay : List Key → Publics → Publics → Type 0
Stay ks x y = (q : Key) → is_among q ks ≡ true → x q ≡ true → y q ≡ true

fewer : (a b : Bool) (m n : ℕ) → suc m ≤ n → suc (one_more_if (a && b) m) ≤ one_more_if a n
fewer true true m n h = omega (arith, h)
fewer true false m n h = omega (arith, h)
fewer false b m n h = h

lost_one : (a b : Bool) (m n : ℕ) → a ≡ true → b ≡ false → m ≤ n → suc (one_more_if (a && b) m) ≤ one_more_if a n
lost_one true false m n e f h = omega (arith, h)
lost_one true true m n e f h = absurd (cc f)
lost_one false b m n e f h = absurd (cc e)

stay_on : (k : Key) (ks : List Key) (x y : Publics) → (x k ≡ true → y k ≡ true) → Stay ks x y → Stay (k ∷ ks) x y
stay_on k ks x y f g q e h = by (either (same_key q k) (is_among q ks) e)
  where
    by : (same_key q k ≡ true) ⊎ (is_among q ks ≡ true) → y q ≡ true
    by (inl i) = subst (λ (z : Key). y z ≡ true) (sym (keys_same q k i)) (f (subst (λ (z : Key). x z ≡ true) (keys_same q k i) h))
    by (inr i) = g q i h

-- all stay, or there are fewer in common
pub stay_or_fewer : (ks : List Key) (x y : Publics) → Stay ks x y ⊎ (suc (count ks (common x y)) ≤ count ks x)
stay_or_fewer [] x y = inl (λ q e h. absurd (cc e))
stay_or_fewer (k ∷ ks) x y = by (x k) (y k) refl refl (stay_or_fewer ks x y)
  where
    by : (a b : Bool) → x k ≡ a → y k ≡ b → Stay ks x y ⊎ (suc (count ks (common x y)) ≤ count ks x) → Stay (k ∷ ks) x y ⊎ (suc (count (k ∷ ks) (common x y)) ≤ count (k ∷ ks) x)
    by a b e f (inr h) = inr (fewer (x k) (y k) (count ks (common x y)) (count ks x) h)
    by a true e f (inl g) = inl (stay_on k ks x y (λ i. f) g)
    by false false e f (inl g) = inl (stay_on k ks x y (λ i. absurd (false≢true (sym e ∙ i))) g)
    by true false e f (inl g) = inr (lost_one (x k) (y k) (count ks (common x y)) (count ks x) e f (count_less ks x y))
