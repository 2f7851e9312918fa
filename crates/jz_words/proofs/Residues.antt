-- Signed numbers and the words that they stand for.
use Rattle.std.proofs.Common.{◌≡◌, ℕ, ◌+◌, ◌-◌, ◌*◌, ◌%◌, ◌^◌, ◌<◌, ◌≤◌, Bool, true, false, refl, ap, ◌∙◌, arith, ℤ, pos, negsuc, ◌+ℤ◌, ◌-ℤ◌, ◌*ℤ◌, ◌<ℤ◌, ◌≤ℤ◌}
use Rattle.std.specs.Prelude.{nat_lt, unsigned_abs, if◌then◌else◌}
use Rattle.std.specs.Int.{int_div_euclid}
use Rattle.std.proofs.Math.Nat.{mod-eq_of_lt}
use Rattle.std.proofs.lemmas.Bool.{cond_both, ltb-true, ltb-false}
use Rattle.std.proofs.lemmas.Int.{ints}
use Rattle.std.proofs.lemmas.Nat.{mod_below, div-add-mod'}
use Rattle.jz_words.specs.declared.size.Size.{Size}
use Rattle.jz_words.specs.declared.size.Size.TheVariants.{S8, S16, S32, S64}
use Rattle.jz_words.specs.Sizes.{half, modulus, signed}
use Rattle.jz_words.specs.Words.{modulo, residue}

-- the residue of a number is below 2 ^ 64
pub residue_small : (i : ℤ) → residue S64 i < 2 ^ 64
residue_small (pos n) = omega arith
residue_small (negsuc n) = omega arith

-- a difference that falls below 0
below_zero : (a b : ℕ) (z : ℤ) → z ≡ pos a -ℤ pos b → a < b → b ≤ 2 ^ 64 → residue S64 z ≡ a + 2 ^ 64 - b
below_zero a b (pos n) e lt le = absurd (omega (arith, ints, e, lt))
below_zero a b (negsuc n) e lt le = let m : n + a + 1 ≡ b = omega (arith, ints, e) in omega (arith, m, lt, le)

not_below : (a b : ℕ) (z : ℤ) → z ≡ pos a -ℤ pos b → b ≤ a → a < 2 ^ 64 → residue S64 z ≡ a - b
not_below a b (pos n) e le lt = let m : n + b ≡ a = omega (arith, ints, e) in omega (arith, m, lt)
not_below a b (negsuc n) e le lt = absurd (omega (arith, ints, e, le))

-- the signed reading of a word stands for the word
pub signed_residue : (a : ℕ) → a < 2 ^ 64 → residue S64 (signed S64 a) ≡ a
unfolding signed
signed_residue a h =
    cond_both (nat_lt a (2 ^ 63)) (pos a) (pos a -ℤ pos (2 ^ 64)) (λ z. residue S64 z ≡ a)
    (λ e. omega (arith, h))
    (λ e. below_zero a (2 ^ 64) (pos a -ℤ pos (2 ^ 64)) refl h (omega arith) ∙ omega arith)

difference_by : (a b : ℕ) (side : Bool) → nat_lt a b ≡ side → a < 2 ^ 64 → b < 2 ^ 64 → residue S64 (pos a -ℤ pos b) ≡ (a + 2 ^ 64 - (b + 0)) % 2 ^ 64
difference_by a b true e h k = let lt = ltb-true a b e in below_zero a b _ refl lt (omega (arith, k)) ∙ omega (arith, lt, h, k)
difference_by a b false e h k = let le = ltb-false a b e in not_below a b _ refl le h ∙ omega (arith, le, h, k)

-- the difference of two words is the word that the difference of their numbers stands for
pub difference_residue : (a b : ℕ) → a < 2 ^ 64 → b < 2 ^ 64 → residue S64 (pos a -ℤ pos b) ≡ (a + 2 ^ 64 - (b + 0)) % 2 ^ 64
difference_residue a b h k = difference_by a b (nat_lt a b) refl h k

-- ---- words of any size
pub double_half : (s : Size) → modulus s ≡ 2 * half s
double_half S8 = refl
double_half S16 = refl
double_half S32 = refl
double_half S64 = refl

-- there is a word of each size
pub some_words : (s : Size) → 0 < modulus s
some_words S8 = omega arith
some_words S16 = omega arith
some_words S32 = omega arith
some_words S64 = omega arith

modulo_below : (z : ℤ) (m : ℕ) → 0 < m → modulo z m < m
modulo_below (pos n) m p = mod_below n m p
modulo_below (negsuc n) m p = omega (arith, p)

pub residue_below : (s : Size) (z : ℤ) → residue s z < modulus s
residue_below s z = modulo_below z (modulus s) (some_words s)

wrapped_back : (z : ℤ) (h m : ℕ) → m ≡ 2 * h → (pos 0 -ℤ pos h) ≤ℤ z → z <ℤ pos h
    → (if nat_lt (modulo z m) h then pos (modulo z m) else (pos (modulo z m) -ℤ pos m)) ≡ z
wrapped_back (pos n) h m e low high =
    let lt : n < h = omega (arith, ints, high) in
    let same : n % m ≡ n = mod-eq_of_lt (omega (arith, lt, e)) in
    cond_both (nat_lt (n % m) h) (pos (n % m)) (pos (n % m) -ℤ pos m) (λ z. z ≡ pos n)
    (λ t. ap pos same)
    (λ f. let le = ltb-false (n % m) h f in absurd (omega (arith, le, same, lt)))
wrapped_back (negsuc n) h m e low high =
    let le : n + 1 ≤ h = omega (arith, ints, low) in
    let same : n % m ≡ n = mod-eq_of_lt (omega (arith, le, e)) in
    let is : m - 1 - n % m ≡ m - 1 - n = ap (λ x. m - 1 - x) same in
    cond_both (nat_lt (m - 1 - n % m) h) (pos (m - 1 - n % m)) (pos (m - 1 - n % m) -ℤ pos m) (λ z. z ≡ negsuc n)
    (λ t. let lt = ltb-true (m - 1 - n % m) h t in absurd (omega (arith, lt, is, le, e)))
    (λ f. omega (arith, ints, is, le, e))

-- a signed number in the range of a word is the signed reading of the word that it stands for
pub signed_of_residue : (s : Size) (z : ℤ) → (pos 0 -ℤ pos (half s)) ≤ℤ z → z <ℤ pos (half s) → signed s (residue s z) ≡ z
unfolding signed
signed_of_residue s z low high = wrapped_back z (half s) (modulus s) (double_half s) low high

divided : (z : ℤ) (m : ℕ) → 0 < m → (int_div_euclid z (pos m) *ℤ pos m) +ℤ pos (modulo z m) ≡ z
divided (pos n) m p = omega (arith, ints, div-add-mod' n m)
divided (negsuc n) m p = omega (arith, ints, div-add-mod' n m, mod_below n m p)

-- what a division by the number of words leaves is the word
pub divided_by_words : (s : Size) (z : ℤ) → (int_div_euclid z (pos (modulus s)) *ℤ pos (modulus s)) +ℤ pos (residue s z) ≡ z
divided_by_words s z = divided z (modulus s) (some_words s)

at_most : (z : ℤ) (h : ℕ) → (pos 0 -ℤ pos h) ≤ℤ z → z ≤ℤ pos h → unsigned_abs z ≤ h
at_most (pos n) h low high = omega (arith, ints, high)
at_most (negsuc n) h low high = omega (arith, ints, low)

-- how far the signed reading of a word is from 0
pub signed_within : (s : Size) (a : ℕ) → a < modulus s → unsigned_abs (signed s a) ≤ half s
unfolding signed
signed_within s a lt =
    cond_both (nat_lt a (half s)) (pos a) (pos a -ℤ pos (modulus s)) (λ z. unsigned_abs z ≤ half s)
    (λ t. let le = ltb-true a (half s) t in omega (arith, le))
    (λ f. let ge = ltb-false a (half s) f in at_most (pos a -ℤ pos (modulus s)) (half s) (omega (arith, ints, ge, double_half s)) (omega (arith, ints, lt)))
