-- One number of a set.
use Rattle.std.proofs.Common.{◌≡◌, ◌≢◌, ℕ, ◌+◌, ◌-◌, ◌*◌, ◌/◌, ◌%◌, ◌^◌, ◌<◌, ◌≤◌, inl, inr, List, false, not, ◌&&◌, ◌||◌, length, get_or, nat_eq, refl, sym, ap, ◌∙◌, arith, IsTrue, set, get_or-set_same, get_or-set_other, min, bit_or, bit_and, w64, replicate, zero, suc, max, below_more, length-set}
use Rattle.std.specs.Int.{bit_at, trailing_zeros}
use Rattle.std.proofs.lemmas.List.{get_or-replicate, get_or_past, get_or_default}
use Rattle.std.proofs.lemmas.Bool.{cases_lt, eqb-true}
use Rattle.std.proofs.Math.ListN.{length-replicate}
use Rattle.std.proofs.lemmas.Nat.Bits.{bit_at_set_same, bit_at_set_other, bit_at_clear_same, bit_at_clear_other, bit_at-zero, bit_at-lt, bit_at_or, bit_at_and, bit_at-trailing_zeros, shr_and_one}
use Rattle.std.proofs.lemmas.Bool.Decides.{eqb_tells}
use Rattle.jz_bits.specs.Has.{has, Shares}

-- a row where the word that has v was changed at v alone
pub other : (ws : List ℕ) (v m : ℕ) → v / 64 < length ws → ((i : ℕ) → i < 64 → i ≢ v % 64 → bit_at m i ≡ bit_at (get_or ws (v / 64) 0) i) → (w : ℕ) → w ≢ v → has (set ws (v / 64) m) w ≡ has ws w
unfolding has
other ws v m h f w ne = elim (eqb_tells (w / 64) (v / 64)) [
  | inl p ↦ (let q : w % 64 ≢ v % 64 = omega (arith, p.1) in let r : w % 64 < 64 = omega arith in rw (p.1, get_or-set_same ws (v / 64) m 0 h) (rw (f (w % 64) r q) refl))
  | inr p ↦ rw (get_or-set_other ws (v / 64) (w / 64) m 0 p.1) refl
]

pub same : (ws : List ℕ) (v m b : ℕ) → v / 64 < length ws → bit_at m (v % 64) ≡ b → has (set ws (v / 64) m) v ≡ nat_eq b 1
unfolding has
same ws v m b h e = rw (get_or-set_same ws (v / 64) m 0 h, e) refl

pub inserted : (ws : List ℕ) (v x : ℕ) → v / 64 < length ws → x ≡ get_or ws (v / 64) x → (w : ℕ) → has (set ws (v / 64) (bit_or x (1 * 2 ^ (v % 64) % 18446744073709551616))) w ≡ (nat_eq w v || has ws w)
inserted ws v x h e w =
    let k : v % 64 < 64 = omega arith in
    let e0 : x ≡ get_or ws (v / 64) 0 = e ∙ get_or_default ws (v / 64) x 0 h in
    elim (eqb_tells w v) [
      | inl p ↦ rw (p.0, p.1) (same ws v (bit_or x (1 * 2 ^ (v % 64) % 18446744073709551616)) 1 h (bit_at_set_same w64 x (v % 64) k))
      | inr p ↦ rw p.0 (other ws v _ h (λ i lt ne. bit_at_set_other w64 x (v % 64) k i ne ∙ ap (λ y. bit_at y i) e0) w p.1)
    ]

pub removed : (ws : List ℕ) (v x : ℕ) → v / 64 < length ws → x ≡ get_or ws (v / 64) x → (w : ℕ) → has (set ws (v / 64) (bit_and x (18446744073709551615 - 1 * 2 ^ (v % 64) % 18446744073709551616))) w ≡ (not (nat_eq w v) && has ws w)
removed ws v x h e w =
    let k : v % 64 < 64 = omega arith in
    let e0 : x ≡ get_or ws (v / 64) 0 = e ∙ get_or_default ws (v / 64) x 0 h in
    elim (eqb_tells w v) [
      | inl p ↦ rw (p.0, p.1) (same ws v (bit_and x (18446744073709551615 - 1 * 2 ^ (v % 64) % 18446744073709551616)) 0 h (bit_at_clear_same w64 x (v % 64) k))
      | inr p ↦ rw p.0 (other ws v _ h (λ i lt ne. bit_at_clear_other w64 x (v % 64) k i lt ne ∙ ap (λ y. bit_at y i) e0) w p.1)
    ]

zeros : (n i : ℕ) → get_or {A = ℕ} (replicate n 0) i 0 ≡ 0
zeros n i = elim (cases_lt i n) [
  | inl h ↦ get_or-replicate n i 0 0 h
  | inr h ↦ get_or_past (replicate n 0) i 0 (rw length-replicate h)
]

pub none : (n w : ℕ) → has (replicate n 0) w ≡ false
unfolding has
none n w = rw (zeros n (w / 64), bit_at-zero (w % 64)) refl

pub tested : (ws : List ℕ) (v x : ℕ) → x ≡ get_or ws (v / 64) 0 → nat_eq (bit_and (x / 2 ^ (v % 64)) 1) 1 ≡ has ws v
unfolding has
tested ws v x e = rw (shr_and_one x (v % 64), e) refl

pub past : (ws : List ℕ) (v : ℕ) → length ws ≤ v / 64 → false ≡ has ws v
unfolding has
past ws v h = rw (get_or_past ws (v / 64) 0 h, bit_at-zero (v % 64)) refl

max_test : (a b : ℕ) → a < 2 → b < 2 → nat_eq (max a b) 1 ≡ (nat_eq a 1 || nat_eq b 1)
max_test zero zero h k = refl
max_test zero (suc zero) h k = refl
max_test (suc zero) zero h k = refl
max_test (suc zero) (suc zero) h k = refl
max_test (suc (suc a)) b h k = absurd (omega arith)
max_test a (suc (suc b)) h k = absurd (omega arith)

pub joined : (x y i : ℕ) → nat_eq (bit_at (bit_or x y) i) 1 ≡ (nat_eq (bit_at x i) 1 || nat_eq (bit_at y i) 1)
joined x y i = rw (bit_at_or x y i) (max_test (bit_at x i) (bit_at y i) (bit_at-lt x i) (bit_at-lt y i))

-- the words below i are joined, the others are as before
pub record Halfway (old more now : List ℕ) (i : ℕ) : Type 0 where
  pub wide : length now ≡ length old
  pub below : (k : ℕ) → k < i → get_or now k 0 ≡ bit_or (get_or old k 0) (get_or more k 0)
  pub above : (k : ℕ) → i ≤ k → get_or now k 0 ≡ get_or old k 0

pub all_words : (old more now : List ℕ) → Halfway old more now (length now) → length more ≡ length old → (w : ℕ) → has now w ≡ (has old w || has more w)
unfolding has
all_words old more now h e w = elim (cases_lt (w / 64) (length now)) [
  | inl lt ↦ rw (h.below (w / 64) lt) (joined (get_or old (w / 64) 0) (get_or more (w / 64) 0) (w % 64))
  | inr le ↦ (let a : get_or now (w / 64) 0 ≡ 0 = get_or_past now (w / 64) 0 le in let b : get_or old (w / 64) 0 ≡ 0 = get_or_past old (w / 64) 0 (omega (arith, h.wide)) in let c : get_or more (w / 64) 0 ≡ 0 = get_or_past more (w / 64) 0 (omega (arith, h.wide)) in rw (a, b, c, bit_at-zero (w % 64)) refl)
]

min_one : (a b : ℕ) → min a b ≡ 1 → a < 2 → b < 2 → (a ≡ 1) × (b ≡ 1)
min_one zero b h k l = absurd (omega arith)
min_one (suc zero) zero h k l = absurd (omega arith)
min_one (suc zero) (suc zero) h k l = (refl, refl)
min_one (suc zero) (suc (suc b)) h k l = absurd (omega arith)
min_one (suc (suc a)) b h k l = absurd (omega arith)

bit_here : (xs : List ℕ) (i k x : ℕ) → x ≡ get_or xs i x → i < length xs → k < 64 → bit_at x k ≡ 1 → IsTrue (has xs (i * 64 + k))
unfolding has
bit_here xs i k x e lt kl h =
    let a : (i * 64 + k) / 64 ≡ i = omega arith in
    let b : (i * 64 + k) % 64 ≡ k = omega arith in
    let c : get_or xs i 0 ≡ x = sym (e ∙ get_or_default xs i x 0 lt) in
    rw (a, b, c, h) refl

-- the word i of both has a number in common
pub shared_word : (xs ys : List ℕ) (i x y : ℕ) → x ≡ get_or xs i x → y ≡ get_or ys i y → i < length xs → i < length ys → bit_and x y ≢ 0 → bit_and x y < 2 ^ 64 → Shares xs ys
shared_word xs ys i x y e f lt lt2 ne fits =
    let z = bit_at-trailing_zeros w64 (bit_and x y) (omega (arith, ne)) fits in
    let k : ℕ = trailing_zeros w64 (bit_and x y) in
    let m = min_one (bit_at x k) (bit_at y k) (sym (bit_at_and x y k) ∙ z.1) (bit_at-lt x k) (bit_at-lt y k) in
    (i * 64 + k, bit_here xs i k x e lt z.0 m.0, bit_here ys i k y f lt2 z.0 m.1)

set_bit : (xs : List ℕ) (w : ℕ) → IsTrue (has xs w) → bit_at (get_or xs (w / 64) 0) (w % 64) ≡ 1
unfolding has
set_bit xs w h = eqb-true _ _ h

within : (xs : List ℕ) (w : ℕ) → IsTrue (has xs w) → w / 64 < length xs
within xs w h = elim (cases_lt (w / 64) (length xs)) [ inl lt ↦ lt | inr ge ↦ absurd (let e = past xs w ge in cc) ]

pub apart_words : (xs ys : List ℕ) → ((i : ℕ) → i < length xs → bit_and (get_or xs i 0) (get_or ys i 0) ≡ 0) → Shares xs ys → ⊥
apart_words xs ys h (w, p, q) =
    let a = set_bit xs w p in
    let b = set_bit ys w q in
    let c = bit_at_and (get_or xs (w / 64) 0) (get_or ys (w / 64) 0) (w % 64) in
    let d : bit_at (bit_and (get_or xs (w / 64) 0) (get_or ys (w / 64) 0)) (w % 64) ≡ 0 = rw (h (w / 64) (within xs w p)) (bit_at-zero (w % 64)) in
    let e : 0 ≡ min (bit_at (get_or xs (w / 64) 0) (w % 64)) (bit_at (get_or ys (w / 64) 0) (w % 64)) = sym d ∙ c in
    omega (arith, a, b, e)
