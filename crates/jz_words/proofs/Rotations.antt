-- Rotations bit by bit.
use Rattle.std.proofs.Common.{◌≡◌, ℕ, ◌+◌, ◌-◌, ◌*◌, ◌/◌, ◌%◌, ◌^◌, ◌<◌, ◌≤◌, ap, sym, ◌∙◌, arith, ◌⊎◌, inl, inr, subst}
use Rattle.std.proofs.lemmas.Bool.{cases_lt}
use Rattle.std.specs.Int.{bit_at}
use Rattle.std.proofs.Math.Nat.{mul-le-mul_left, pow-le-pow_right, div-le_self}
use Rattle.std.proofs.Math.Pow.{shr_mod}
use Rattle.std.proofs.lemmas.Nat.{pow_pos, shr_split, mod-pow-add, mod_below, shr_high, mod_low}
use Rattle.std.proofs.lemmas.Nat.Bits.{bit_at_cat_low, bit_at_cat_high}
use Rattle.jz_words.specs.declared.size.Size.{Size}
use Rattle.jz_words.specs.declared.size.Size.TheVariants.{S8, S16, S32, S64}
use Rattle.jz_words.specs.Sizes.{bits_of, modulus}
use Rattle.jz_words.specs.Words.{rol_of, ror_of}

-- the upper part of a number of d + c bits has d bits
upper_fits : (a c d : ℕ) → a < 2 ^ (d + c) → a / 2 ^ c < 2 ^ d
upper_fits a c d fits = rw (← shr_mod d c fits) (mod_below (a / 2 ^ c) (2 ^ d) (pow_pos d))

-- the two parts of a number change places
parts_swap : (a c d : ℕ) → a < 2 ^ (d + c) → (a * 2 ^ d + a / 2 ^ c) % 2 ^ (c + d) ≡ (a % 2 ^ c) * 2 ^ d + a / 2 ^ c
parts_swap a c d fits =
    let upper = upper_fits a c d fits in
    mod-pow-add (a * 2 ^ d + a / 2 ^ c) c d
    ∙ ap (λ x. (x % 2 ^ c) * 2 ^ d + (a * 2 ^ d + a / 2 ^ c) % 2 ^ d) (shr_high a d (a / 2 ^ c) upper)
    ∙ ap (λ x. (a % 2 ^ c) * 2 ^ d + x) (mod_low a d (a / 2 ^ c) upper)

-- each bit of the lower part is d places higher
lower_bit : (a c d i : ℕ) → a < 2 ^ (d + c) → i < c → bit_at ((a * 2 ^ d + a / 2 ^ c) % 2 ^ (c + d)) (i + d) ≡ bit_at a i
lower_bit a c d i fits low =
    let place : i + d - d ≡ i = omega arith in
    let above : d ≤ i + d = omega arith in
    ap (λ x. bit_at x (i + d)) (parts_swap a c d fits)
    ∙ bit_at_cat_high (a % 2 ^ c) d (a / 2 ^ c) (i + d) (upper_fits a c d fits) above
    ∙ ap (bit_at (a % 2 ^ c)) place
    ∙ sym (bit_at_cat_low (a / 2 ^ c) c (a % 2 ^ c) i low)
    ∙ ap (λ x. bit_at x i) (shr_split a c)

-- each bit of the upper part is c places lower
upper_bit : (a c d i : ℕ) → a < 2 ^ (d + c) → c ≤ i → i < d + c → bit_at ((a * 2 ^ d + a / 2 ^ c) % 2 ^ (c + d)) (i - c) ≡ bit_at a i
upper_bit a c d i fits high within =
    ap (λ x. bit_at x (i - c)) (parts_swap a c d fits)
    ∙ bit_at_cat_low (a % 2 ^ c) d (a / 2 ^ c) (i - c) (omega arith)
    ∙ sym (bit_at_cat_high (a / 2 ^ c) c (a % 2 ^ c) i (mod_below a (2 ^ c) (pow_pos c)) high)
    ∙ ap (λ x. bit_at x i) (shr_split a c)

-- the same for a word of w bits, whose bit i comes to place j
bit_moves : (a w c d i j : ℕ) → a < 2 ^ w → w ≡ d + c → w ≡ c + d → i < w → (j ≡ i + d) ⊎ (j + c ≡ i) → j < w →
    bit_at ((a * 2 ^ d + a / 2 ^ c) % 2 ^ w) j ≡ bit_at a i
bit_moves a w c d i j fits e f within (inl up) below =
    rw (f, up) (lower_bit a c d i (subst (λ x. a < 2 ^ x) e fits) (omega arith))
bit_moves a w c d i j fits e f within (inr down) below =
    let place : j ≡ i - c = omega arith in
    rw (f, place) (upper_bit a c d i (subst (λ x. a < 2 ^ x) e fits) (omega arith) (omega arith))

-- one of two facts, by the order of two numbers
by_order : {A B : Type 0} (x y : ℕ) → (x < y → A) → (y ≤ x → B) → A ⊎ B
by_order x y less more = elim (cases_lt x y) [ inl h ↦ inl (less h) | inr h ↦ inr (more h) ]

-- rotating to the left moves each bit up by the count, modulo the size
pub rol_moves : (s : Size) (a n i : ℕ) → a < modulus s → i < bits_of s → bit_at (rol_of s a n) ((i + n) % bits_of s) ≡ bit_at a i
rol_moves S8 a n i fits within =
    bit_moves a 8 (8 - n % 8) (n % 8) i ((i + n) % 8) fits (omega arith) (omega arith) within
    (by_order (i + n % 8) 8 (λ h. omega arith) (λ h. omega arith)) (omega arith)
rol_moves S16 a n i fits within =
    bit_moves a 16 (16 - n % 16) (n % 16) i ((i + n) % 16) fits (omega arith) (omega arith) within
    (by_order (i + n % 16) 16 (λ h. omega arith) (λ h. omega arith)) (omega arith)
rol_moves S32 a n i fits within =
    bit_moves a 32 (32 - n % 32) (n % 32) i ((i + n) % 32) fits (omega arith) (omega arith) within
    (by_order (i + n % 32) 32 (λ h. omega arith) (λ h. omega arith)) (omega arith)
rol_moves S64 a n i fits within =
    bit_moves a 64 (64 - n % 64) (n % 64) i ((i + n) % 64) fits (omega arith) (omega arith) within
    (by_order (i + n % 64) 64 (λ h. omega arith) (λ h. omega arith)) (omega arith)

-- rotating to the right moves each bit down by the count, modulo the size
pub ror_moves : (s : Size) (a n i : ℕ) → a < modulus s → i < bits_of s → bit_at (ror_of s a n) i ≡ bit_at a ((i + n) % bits_of s)
ror_moves S8 a n i fits within =
    bit_moves a 8 (n % 8) (8 - n % 8) ((i + n) % 8) i fits (omega arith) (omega arith) (omega arith)
    (by_order 8 (i + n % 8 + 1) (λ h. omega arith) (λ h. omega arith)) within
ror_moves S16 a n i fits within =
    bit_moves a 16 (n % 16) (16 - n % 16) ((i + n) % 16) i fits (omega arith) (omega arith) (omega arith)
    (by_order 16 (i + n % 16 + 1) (λ h. omega arith) (λ h. omega arith)) within
ror_moves S32 a n i fits within =
    bit_moves a 32 (n % 32) (32 - n % 32) ((i + n) % 32) i fits (omega arith) (omega arith) (omega arith)
    (by_order 32 (i + n % 32 + 1) (λ h. omega arith) (λ h. omega arith)) within
ror_moves S64 a n i fits within =
    bit_moves a 64 (n % 64) (64 - n % 64) ((i + n) % 64) i fits (omega arith) (omega arith) (omega arith)
    (by_order 64 (i + n % 64 + 1) (λ h. omega arith) (λ h. omega arith)) within

-- two shifted copies of a word of 64 bits fit in 128 bits
pub shifted_sum_fits : (a k m : ℕ) → a < 2 ^ 64 → k ≤ 64 → a * 2 ^ k + a / 2 ^ m < 2 ^ 128
shifted_sum_fits a k m fits short =
    let power : 2 ^ k ≤ 2 ^ 64 = pow-le-pow_right (omega arith) short in
    let product : a * 2 ^ k ≤ a * 2 ^ 64 = mul-le-mul_left a power in
    let part : a / 2 ^ m ≤ a = div-le_self a (2 ^ m) in
    omega arith
