-- Words shifted by 64 places or more.
use Rattle.std.proofs.Common.{◌≡◌, ◌<◌, ◌≤◌, ℕ, ◌+◌, ◌-◌, ◌*◌, ◌/◌, ◌%◌, ◌^◌, Bool, true, false, arith, refl, sym, ap, ◌∙◌}
use Rattle.std.specs.Prelude.{nat_lt, if◌then◌else◌, ℤ, pos, negsuc, ◌-ℤ◌, ◌≤ℤ◌, ◌<ℤ◌}
use Rattle.std.specs.Int.{int_div_euclid}
use Rattle.std.proofs.Math.Nat.{mul_assoc, mul-mod_left, div-eq_of_lt, mod-mod}
use Rattle.std.proofs.Math.Pow.{pow_mono}
use Rattle.std.proofs.lemmas.Nat.{pow-add}
use Rattle.std.proofs.lemmas.Bool.{ltb-true, ltb-false}
use Rattle.std.proofs.lemmas.Int.{ints}
use Rattle.x64_insn.specs.Size.{Size}
use Rattle.x64_insn.specs.Size.TheVariants.{S8, S16, S32, S64}
use Rattle.x64_insn.specs.Sizes.{bits_of, half, modulus, signed}
use Rattle.x64_insn.proofs.Residues.{double_half}
use Rattle.x64_insn.specs.Words.{residue, shl_of, shr_of, sar_of, rol_of, ror_of}

widest : (s : Size) → bits_of s ≤ 64
widest S8 = omega arith
widest S16 = omega arith
widest S32 = omega arith
widest S64 = omega arith

no_bits : (a b n : ℕ) → b ≤ n → a * 2 ^ n % 2 ^ b ≡ 0
no_bits a b n le =
    let e : n ≡ (n - b) + b = omega (arith, le) in
    ap (λ k. a * 2 ^ k % 2 ^ b) e
    ∙ ap (λ x. a * x % 2 ^ b) (pow-add 2 (n - b) b)
    ∙ ap (λ x. x % 2 ^ b) (sym (mul_assoc a (2 ^ (n - b)) (2 ^ b)))
    ∙ mul-mod_left (a * 2 ^ (n - b)) (2 ^ b)

-- no bit stays
pub shl_far : (s : Size) (a n : ℕ) → 64 ≤ n → shl_of s a n ≡ 0
shl_far s a n far = no_bits a (bits_of s) n (omega (arith, widest s, far))

pub shr_far : (s : Size) (a n : ℕ) → a < modulus s → 64 ≤ n → shr_of a n ≡ 0
shr_far s a n fits far =
    let le : bits_of s ≤ n = omega (arith, widest s, far) in
    let wide : 2 ^ bits_of s ≤ 2 ^ n = pow_mono le in
    div-eq_of_lt (omega (arith, fits, wide))

sign_alone : (z : ℤ) (m p : ℕ) → 0 < m → m ≤ p → negsuc (m - 1) ≤ℤ z → z <ℤ pos m → int_div_euclid z (pos p) ≡ int_div_euclid z (pos m)
sign_alone (pos n) m p z le low high = ap pos (div-eq_of_lt (omega (arith, ints, high, z, le)) ∙ sym (div-eq_of_lt (omega (arith, ints, high))))
sign_alone (negsuc n) m p z le low high = ap negsuc (div-eq_of_lt (omega (arith, ints, low, z, le)) ∙ sym (div-eq_of_lt (omega (arith, ints, low, z))))

signed_low : (a h m : ℕ) (b : Bool) → m ≡ 2 * h → nat_lt a h ≡ b → 0 < h → h ≤ 2 ^ 63 → negsuc (2 ^ 63 - 1) ≤ℤ (if b then pos a else (pos a -ℤ pos m))
signed_low a h m true e t z le = omega (arith, ints)
signed_low a h m false e t z le = let ge = ltb-false a h t in omega (arith, ints, ge, e, le)

signed_high : (a h m : ℕ) (b : Bool) → m ≡ 2 * h → nat_lt a h ≡ b → a < m → h ≤ 2 ^ 63 → (if b then pos a else (pos a -ℤ pos m)) <ℤ pos (2 ^ 63)
signed_high a h m true e t lt le = let less = ltb-true a h t in omega (arith, ints, less, le)
signed_high a h m false e t lt le = omega (arith, ints, lt)

some_half : (s : Size) → 0 < half s
some_half S8 = omega arith
some_half S16 = omega arith
some_half S32 = omega arith
some_half S64 = omega arith

widest_half : (s : Size) → half s ≤ 2 ^ 63
widest_half S8 = omega arith
widest_half S16 = omega arith
widest_half S32 = omega arith
widest_half S64 = omega arith

-- the sign alone stays
pub sar_far : (s : Size) (a n : ℕ) → a < modulus s → 64 ≤ n → sar_of s a 63 ≡ sar_of s a n
unfolding signed
sar_far s a n fits far =
    let le : 63 ≤ n = omega (arith, far) in
    sym
    (ap (residue s)
    (sign_alone (signed s a) (2 ^ 63) (2 ^ n) (omega arith) (pow_mono le)
    (signed_low a (half s) (modulus s) (nat_lt a (half s)) (double_half s) refl (some_half s) (widest_half s))
    (signed_high a (half s) (modulus s) (nat_lt a (half s)) (double_half s) refl fits (widest_half s))))

-- a rotation goes round
pub rol_round : (s : Size) (a n : ℕ) → rol_of s a (n % bits_of s) ≡ rol_of s a n
rol_round s a n = ap (λ k. (a * 2 ^ k + a / 2 ^ (bits_of s - k)) % modulus s) (mod-mod n (bits_of s))

pub ror_round : (s : Size) (a n : ℕ) → ror_of s a (n % bits_of s) ≡ ror_of s a n
ror_round s a n = ap (λ k. (a * 2 ^ (bits_of s - k) + a / 2 ^ k) % modulus s) (mod-mod n (bits_of s))
