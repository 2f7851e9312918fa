-- How many variables of a sum stand alone, and how many are scaled.
use Rattle.std.proofs.Common.{◌≡◌, ℕ, suc, ◌+◌, ◌<◌, ◌≤◌, Bool, true, false, List, [], ◌∷◌, ◌++◌, refl, sym, ◌∙◌, subst, arith, inl, inr, if◌then◌else◌, ℤ}
use Rattle.std.specs.Prelude.{nat_lt, nat_le, ◌&&◌, ◌==◌, ◌⊎◌}
use Rattle.std.proofs.lemmas.Bool.{false≢true, and_parts, ltb-true, ltb-false, leb-true, eqb-true, eq-eqb}
use Rattle.jz_select.specs.declared.class.Sum as looked
use Rattle.jz_select.specs.Sums.{capped_count, is_sum, is_address, is_index}
use Rattle.jz_operations.specs.declared.operation.Address.{Address}
use Rattle.std.specs.Prelude.{Option, Some, None}
use Rattle.jz_words.specs.declared.size.Size.TheVariants.{S64}
use Rattle.jz_words.specs.Readings.{reading_of}
use Rattle.jz_homes.specs.Sums.{Sum, sum_of, IsAddress, of_base, of_both, of_swapped, IsIndex, constant, variable}

-- ---- exactly
pub data Counted : List (ℕ × ℕ) → ℕ → ℕ → Type 0 where
  none : Counted [] 0 0
  plain : (n : ℕ) {ts : List (ℕ × ℕ)} {p s : ℕ} → Counted ts p s → Counted ((n, 1) ∷ ts) (suc p) s
  scaled : (n k : ℕ) {ts : List (ℕ × ℕ)} {p s : ℕ} → Counted ts p s → Counted ((n, k) ∷ ts) p (suc s)

recount : {ts : List (ℕ × ℕ)} {p s q r : ℕ} → p ≡ q → s ≡ r → Counted ts p s → Counted ts q r
recount {ts} {p} {s} {q} {r} e f c = subst (λ n. Counted ts n r) e (subst (λ n. Counted ts p n) f c)

pub both_counted : {ts us : List (ℕ × ℕ)} {p s q r : ℕ} → Counted ts p s → Counted us q r → Counted (ts ++ us) (p + q) (s + r)
both_counted none d = recount (omega (arith)) (omega (arith)) d
both_counted (plain n c) d = recount (omega (arith)) (omega (arith)) (plain n (both_counted c d))
both_counted (scaled n k c) d = recount (omega (arith)) (omega (arith)) (scaled n k (both_counted c d))

-- ---- up to three, which stands for more
pub data IsCount : ℕ → ℕ → Type 0 where
  exact : (n : ℕ) → n < 3 → IsCount n n
  more : (n : ℕ) → 3 ≤ n → IsCount 3 n

by_test : (n : ℕ) (t : Bool) → nat_lt n 3 ≡ t → IsCount (if t then n else 3) n
by_test n true e = exact n (ltb-true n 3 e)
by_test n false e = more n (ltb-false n 3 e)

capped : (a b n : ℕ) → 3 ≤ a + b → 3 ≤ n → IsCount (capped_count a b) n
capped a b n l m = by_case (nat_lt (a + b) 3) refl
  where
    by_case : (t : Bool) → nat_lt (a + b) 3 ≡ t → IsCount (if t then a + b else 3) n
    by_case true e = let k = ltb-true (a + b) 3 e in absurd (omega (arith, k, l))
    by_case false e = more n m

pub both_counts : {a b p q : ℕ} → IsCount a p → IsCount b q → IsCount (capped_count a b) (p + q)
both_counts (exact p l) (exact q m) = by_test (p + q) (nat_lt (p + q) 3) refl
both_counts (exact p l) (more q m) = capped p 3 (p + q) (omega (arith)) (omega (arith, m))
both_counts (more p l) (exact q m) = capped 3 q (p + q) (omega (arith)) (omega (arith, l))
both_counts (more p l) (more q m) = capped 3 3 (p + q) (omega (arith)) (omega (arith, m))

pub other_order : {a : ℕ} (p q : ℕ) → IsCount a (p + q) → IsCount a (q + p)
other_order {a} p q c = subst (λ n. IsCount a n) (omega (arith)) c

-- a count up to two is exact
pub small_count : {a n : ℕ} → IsCount a n → a < 3 → n ≡ a
small_count (exact n l) m = refl
small_count (more n l) m = absurd (omega (arith, m))

-- ---- addresses
pub record HasAddress (t : Sum) : Type 0 where
  pub address : Address
  pub is : IsAddress t address

pub factor_one : (k : ℕ) → (k ≡ 1) ⊎ (k ≡ 1 → ⊥)
factor_one k = by_test' (k == 1) refl
  where
    by_test' : (t : Bool) → (k == 1) ≡ t → (k ≡ 1) ⊎ (k ≡ 1 → ⊥)
    by_test' true e = inl (eqb-true k 1 e)
    by_test' false e = inr (λ s. false≢true (sym e ∙ eq-eqb k 1 s))

swapped : (b j k : ℕ) (i : ℤ) → HasAddress (sum_of ((j, k) ∷ (b, 1) ∷ []) i)
swapped b j k i = by_factor (factor_one k)
  where
    by_factor : (k ≡ 1) ⊎ (k ≡ 1 → ⊥) → HasAddress (sum_of ((j, k) ∷ (b, 1) ∷ []) i)
    by_factor (inl e) = subst (λ m. HasAddress (sum_of ((j, m) ∷ (b, 1) ∷ []) i)) (sym e) (record { address = _; is = of_both j b 1 i })
    by_factor (inr n) = record { address = _; is = of_swapped b j k i n }

pub address_terms : (ts : List (ℕ × ℕ)) (p s : ℕ) (i : ℤ) → Counted ts p s → s ≤ 1 → p + s ≤ 2 → 1 ≤ p → HasAddress (sum_of ts i)
address_terms ts p s i none l m n = absurd (omega (arith, n))
address_terms ts p s i (plain b none) l m n = record { address = _; is = of_base b i }
address_terms ts p s i (plain b (plain j none)) l m n = record { address = _; is = of_both b j 1 i }
address_terms ts p s i (plain b (scaled j k none)) l m n = record { address = _; is = of_both b j k i }
address_terms ts p s i (plain b (plain j (plain h c))) l m n = absurd (omega (arith, m))
address_terms ts p s i (plain b (plain j (scaled h k c))) l m n = absurd (omega (arith, m))
address_terms ts p s i (plain b (scaled j k (plain h c))) l m n = absurd (omega (arith, m))
address_terms ts p s i (plain b (scaled j k (scaled h g c))) l m n = absurd (omega (arith, l))
address_terms ts p s i (scaled j k none) l m n = absurd (omega (arith, n))
address_terms ts p s i (scaled j k (plain b none)) l m n = swapped b j k i
address_terms ts p s i (scaled j k (scaled h g c)) l m n = absurd (omega (arith, l))
address_terms ts p s i (scaled j k (plain b (plain h c))) l m n = absurd (omega (arith, m))
address_terms ts p s i (scaled j k (plain b (scaled h g c))) l m n = absurd (omega (arith, l))

pub address_there : (t : Sum) (s : looked.Sum) (p q : ℕ) → Counted t.terms p q → IsCount s.plain p → IsCount s.scaled q → is_address s ≡ true → HasAddress t
address_there t s p q c f g h =
    let a = and_parts (is_sum s) (nat_le 1 s.plain) h in
    let b = and_parts s.good (nat_le s.scaled 1 && nat_le (s.plain + s.scaled) 2) a.0 in
    let d = and_parts (nat_le s.scaled 1) (nat_le (s.plain + s.scaled) 2) b.1 in
    let one = leb-true s.scaled 1 d.0 in
    let two = leb-true (s.plain + s.scaled) 2 d.1 in
    let base = leb-true 1 s.plain a.1 in
    let e = small_count f (omega (arith, two)) in
    let k = small_count g (omega (arith, one)) in
    address_terms t.terms p q t.number c (omega (arith, k, one)) (omega (arith, e, k, two)) (omega (arith, e, base))

-- ---- indices
pub record HasIndex (t : Sum) : Type 0 where
  pub base : Option ℕ
  pub is : IsIndex t base (reading_of S64 t.number)

index_terms : (ts : List (ℕ × ℕ)) (p s : ℕ) (i : ℤ) → Counted ts p s → s ≤ 0 → p ≤ 1 → HasIndex (sum_of ts i)
index_terms ts p s i none l m = record { base = None; is = constant i }
index_terms ts p s i (plain b none) l m = record { base = Some b; is = variable b i }
index_terms ts p s i (plain b (plain j c)) l m = absurd (omega (arith, m))
index_terms ts p s i (plain b (scaled j k c)) l m = absurd (omega (arith, l))
index_terms ts p s i (scaled j k c) l m = absurd (omega (arith, l))

pub index_there : (t : Sum) (s : looked.Sum) (p q : ℕ) → Counted t.terms p q → IsCount s.plain p → IsCount s.scaled q → is_index s ≡ true → HasIndex t
index_there t s p q c f g h =
    let a = and_parts s.good (nat_le s.plain 1 && nat_le s.scaled 0) h in
    let b = and_parts (nat_le s.plain 1) (nat_le s.scaled 0) a.1 in
    let one = leb-true s.plain 1 b.0 in
    let zero = leb-true s.scaled 0 b.1 in
    let e = small_count f (omega (arith, one)) in
    let k = small_count g (omega (arith, zero)) in
    index_terms t.terms p q t.number c (omega (arith, k, zero)) (omega (arith, e, one))
