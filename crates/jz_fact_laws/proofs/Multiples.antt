-- Multiples of 2, 4 and 8 stay so modulo the number of words.
use Rattle.std.proofs.Common.{◌≡◌, ℕ, ◌+◌, ◌-◌, ◌*◌, ◌%◌, [], ◌∷◌, Bool, true, false, refl, sym, ◌∙◌, subst, arith, rules}
use Rattle.std.specs.Prelude.{◌==◌, ◌||◌, ℤ, pos, negsuc}
use Rattle.std.proofs.lemmas.Nat.Gcd.{dvd_of_mod-eq-zero, mod-eq-zero_of_dvd}
use Rattle.std.proofs.Math.Nat.{dvd-mul_left_of_dvd, dvd-mul_right_of_dvd}
use Rattle.std.proofs.Math.Pow.{mod-mod-pow}
use Rattle.x64_insn.specs.Size.{Size}
use Rattle.x64_insn.specs.Size.TheVariants.{S8, S16, S32, S64}
use Rattle.x64_insn.specs.Sizes.{modulus}
use Rattle.x64_insn.specs.Words.{residue, modulo}
use Rattle.jz_facts.specs.Facts.{is_among}

pub three : (P : ℕ → Type 0) → P 2 → P 4 → P 8 → (m : ℕ) → is_among m (2 ∷ 4 ∷ 8 ∷ []) ≡ true → P m
three P a b c m e = by (m == 2) refl (m == 4) refl (m == 8) refl e
  where
    by : (x : Bool) → (m == 2) ≡ x → (y : Bool) → (m == 4) ≡ y → (z : Bool) → (m == 8) ≡ z → (x || (y || (z || false))) ≡ true → P m
    by true p y q z r e = let i : m ≡ 2 = grind (arith, rules, p) in subst P (sym i) a
    by false p true q z r e = let i : m ≡ 4 = grind (arith, rules, q) in subst P (sym i) b
    by false p false q true r e = let i : m ≡ 8 = grind (arith, rules, r) in subst P (sym i) c
    by false p false q false r e = absurd (cc e)

shorter_2 : (u : Size) (n : ℕ) → n % modulus u % 2 ≡ n % 2
shorter_2 S8 n = mod-mod-pow n 7 1
shorter_2 S16 n = mod-mod-pow n 15 1
shorter_2 S32 n = mod-mod-pow n 31 1
shorter_2 S64 n = mod-mod-pow n 63 1

shorter_4 : (u : Size) (n : ℕ) → n % modulus u % 4 ≡ n % 4
shorter_4 S8 n = mod-mod-pow n 6 2
shorter_4 S16 n = mod-mod-pow n 14 2
shorter_4 S32 n = mod-mod-pow n 30 2
shorter_4 S64 n = mod-mod-pow n 62 2

shorter_8 : (u : Size) (n : ℕ) → n % modulus u % 8 ≡ n % 8
shorter_8 S8 n = mod-mod-pow n 5 3
shorter_8 S16 n = mod-mod-pow n 13 3
shorter_8 S32 n = mod-mod-pow n 29 3
shorter_8 S64 n = mod-mod-pow n 61 3

pub shorter : (m : ℕ) → is_among m (2 ∷ 4 ∷ 8 ∷ []) ≡ true → (u : Size) (n : ℕ) → n % modulus u % m ≡ n % m
shorter m e u n = three (λ m. n % modulus u % m ≡ n % m) (shorter_2 u n) (shorter_4 u n) (shorter_8 u n) m e

pub sum_multiple : (m : ℕ) → is_among m (2 ∷ 4 ∷ 8 ∷ []) ≡ true → (u : Size) (a b : ℕ) → a % m ≡ 0 → b % m ≡ 0 → (a + b) % modulus u % m ≡ 0
sum_multiple m e u a b = three (λ m. a % m ≡ 0 → b % m ≡ 0 → (a + b) % modulus u % m ≡ 0)
    (λ p q. shorter_2 u (a + b) ∙ omega (arith, p, q)) (λ p q. shorter_4 u (a + b) ∙ omega (arith, p, q)) (λ p q. shorter_8 u (a + b) ∙ omega (arith, p, q)) m e

pub product_multiple : (m : ℕ) → is_among m (2 ∷ 4 ∷ 8 ∷ []) ≡ true → (u : Size) (a b : ℕ) → a % m ≡ 0 → a * b % modulus u % m ≡ 0
product_multiple m e u a b p = shorter m e u (a * b) ∙ mod-eq-zero_of_dvd m (dvd-mul_right_of_dvd m (dvd_of_mod-eq-zero m p) b)

pub product_multiple_right : (m : ℕ) → is_among m (2 ∷ 4 ∷ 8 ∷ []) ≡ true → (u : Size) (a b : ℕ) → b % m ≡ 0 → a * b % modulus u % m ≡ 0
product_multiple_right m e u a b p = shorter m e u (a * b) ∙ mod-eq-zero_of_dvd m (dvd-mul_left_of_dvd m (dvd_of_mod-eq-zero m p) a)

whole_2 : (u : Size) (n : ℕ) → 2 - 1 - n % 2 ≡ 0 → (modulus u - 1 - n % modulus u) % 2 ≡ 0
whole_2 S8 n p = let q = shorter_2 S8 n in omega (arith, p, q)
whole_2 S16 n p = let q = shorter_2 S16 n in omega (arith, p, q)
whole_2 S32 n p = let q = shorter_2 S32 n in omega (arith, p, q)
whole_2 S64 n p = let q = shorter_2 S64 n in omega (arith, p, q)

whole_4 : (u : Size) (n : ℕ) → 4 - 1 - n % 4 ≡ 0 → (modulus u - 1 - n % modulus u) % 4 ≡ 0
whole_4 S8 n p = let q = shorter_4 S8 n in omega (arith, p, q)
whole_4 S16 n p = let q = shorter_4 S16 n in omega (arith, p, q)
whole_4 S32 n p = let q = shorter_4 S32 n in omega (arith, p, q)
whole_4 S64 n p = let q = shorter_4 S64 n in omega (arith, p, q)

whole_8 : (u : Size) (n : ℕ) → 8 - 1 - n % 8 ≡ 0 → (modulus u - 1 - n % modulus u) % 8 ≡ 0
whole_8 S8 n p = let q = shorter_8 S8 n in omega (arith, p, q)
whole_8 S16 n p = let q = shorter_8 S16 n in omega (arith, p, q)
whole_8 S32 n p = let q = shorter_8 S32 n in omega (arith, p, q)
whole_8 S64 n p = let q = shorter_8 S64 n in omega (arith, p, q)

less_2 : (u : Size) (a b : ℕ) → a % 2 ≡ 0 → b % 2 ≡ 0 → (a + modulus u - b) % modulus u % 2 ≡ 0
less_2 S8 a b p q = shorter_2 S8 (a + modulus S8 - b) ∙ omega (arith, p, q)
less_2 S16 a b p q = shorter_2 S16 (a + modulus S16 - b) ∙ omega (arith, p, q)
less_2 S32 a b p q = shorter_2 S32 (a + modulus S32 - b) ∙ omega (arith, p, q)
less_2 S64 a b p q = shorter_2 S64 (a + modulus S64 - b) ∙ omega (arith, p, q)

less_4 : (u : Size) (a b : ℕ) → a % 4 ≡ 0 → b % 4 ≡ 0 → (a + modulus u - b) % modulus u % 4 ≡ 0
less_4 S8 a b p q = shorter_4 S8 (a + modulus S8 - b) ∙ omega (arith, p, q)
less_4 S16 a b p q = shorter_4 S16 (a + modulus S16 - b) ∙ omega (arith, p, q)
less_4 S32 a b p q = shorter_4 S32 (a + modulus S32 - b) ∙ omega (arith, p, q)
less_4 S64 a b p q = shorter_4 S64 (a + modulus S64 - b) ∙ omega (arith, p, q)

less_8 : (u : Size) (a b : ℕ) → a % 8 ≡ 0 → b % 8 ≡ 0 → (a + modulus u - b) % modulus u % 8 ≡ 0
less_8 S8 a b p q = shorter_8 S8 (a + modulus S8 - b) ∙ omega (arith, p, q)
less_8 S16 a b p q = shorter_8 S16 (a + modulus S16 - b) ∙ omega (arith, p, q)
less_8 S32 a b p q = shorter_8 S32 (a + modulus S32 - b) ∙ omega (arith, p, q)
less_8 S64 a b p q = shorter_8 S64 (a + modulus S64 - b) ∙ omega (arith, p, q)

pub number_multiple : (m : ℕ) → is_among m (2 ∷ 4 ∷ 8 ∷ []) ≡ true → (u : Size) (i : ℤ) → modulo i m ≡ 0 → residue u i % m ≡ 0
number_multiple m e u (pos n) p = shorter m e u n ∙ p
number_multiple m e u (negsuc n) p = three (λ m. m - 1 - n % m ≡ 0 → (modulus u - 1 - n % modulus u) % m ≡ 0) (whole_2 u n) (whole_4 u n) (whole_8 u n) m e p

pub difference_multiple : (m : ℕ) → is_among m (2 ∷ 4 ∷ 8 ∷ []) ≡ true → (u : Size) (a b : ℕ) → a % m ≡ 0 → b % m ≡ 0 → (a + modulus u - b) % modulus u % m ≡ 0
difference_multiple m e u a b p q = three (λ m. a % m ≡ 0 → b % m ≡ 0 → (a + modulus u - b) % modulus u % m ≡ 0) (less_2 u a b) (less_4 u a b) (less_8 u a b) m e p q
