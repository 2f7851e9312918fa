-- Words as signed numbers, and their quotients.
use Rattle.std.proofs.Common.{◌≡◌, ◌≢◌, ◌<◌, ◌≤◌, ℕ, zero, suc, ◌-◌, ◌/◌, ◌^◌, Bool, true, false, arith, refl, FitsSigned, to_z, of_z}
use Rattle.std.specs.Prelude.{nat_lt, if◌then◌else◌, ℤ, pos, negsuc, neg_ℤ, ◌-ℤ◌, ◌≤ℤ◌, ◌<ℤ◌, unsigned_abs, int_div}
use Rattle.std.specs.Int.{w128}
use Rattle.std.proofs.Math.Nat.{div-le_self}
use Rattle.std.proofs.lemmas.Int.{ints, to_z-of_z, fits_signed_from_abs}
use Rattle.x64_insn.specs.Size.{Size}
use Rattle.x64_insn.specs.Sizes.{half, modulus, signed}

only_zero : (d m : ℕ) (b : Bool) → d < m → (if b then pos d else (pos d -ℤ pos m)) ≡ pos 0 → d ≡ 0
only_zero d m true lt e = let f : pos d ≡ pos 0 = e in omega (arith, ints, f)
only_zero d m false lt e = let f : (pos d -ℤ pos m) ≡ pos 0 = e in omega (arith, ints, lt, f)

-- of the words of a size only 0 stands for 0
pub signed_zero : (s : Size) (d : ℕ) → d < modulus s → signed s d ≡ pos 0 → d ≡ 0
unfolding signed
signed_zero s d lt e = only_zero d (modulus s) (nat_lt d (half s)) lt e

-- ---- quotients of 128 bits
abs_neg : (n : ℕ) → unsigned_abs (neg_ℤ (pos n)) ≡ n
abs_neg zero = refl
abs_neg (suc n) = refl

smaller : (a d : ℤ) (m : ℕ) → unsigned_abs a ≤ m → unsigned_abs (int_div a d) ≤ m
smaller (pos a) (pos b) m le = omega (arith, div-le_self a b, le)
smaller (pos a) (negsuc b) m le = omega (arith, abs_neg (a / suc b), div-le_self a (suc b), le)
smaller (negsuc a) (pos b) m le = omega (arith, abs_neg (suc a / b), div-le_self (suc a) b, le)
smaller (negsuc a) (negsuc b) m le = omega (arith, div-le_self (suc a) (suc b), le)

within : (a : ℤ) → negsuc (2 ^ 63 - 1) ≤ℤ a → a <ℤ pos (2 ^ 63) → unsigned_abs a ≤ 2 ^ 63
within (pos n) low high = omega (arith, ints, high)
within (negsuc n) low high = omega (arith, ints, low)

no_zero : (d : ℤ) → FitsSigned w128 d → d ≢ pos 0 → 0 < of_z w128 d
no_zero (pos zero) f h = absurd (h refl)
no_zero (pos (suc n)) f h = omega arith
no_zero (negsuc n) f h = omega (arith, f.sfits)

-- the quotient of words as signed numbers has room in 128 bits
pub divides : (a d : ℤ) → FitsSigned w128 a → FitsSigned w128 d → negsuc (2 ^ 63 - 1) ≤ℤ a → a <ℤ pos (2 ^ 63) → d ≢ pos 0
    → (0 < of_z w128 d) × FitsSigned w128 (int_div (to_z w128 (of_z w128 a)) (to_z w128 (of_z w128 d)))
divides a d f g low high h =
    let few : unsigned_abs (int_div a d) ≤ 2 ^ 63 = smaller a d (2 ^ 63) (within a low high) in
    (no_zero d g h, rw (to_z-of_z w128 a f, to_z-of_z w128 d g) (fits_signed_from_abs w128 (int_div a d) (omega (arith, few))))
