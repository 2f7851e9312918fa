-- The bytes of immediates, and the signed numbers that they hold.
use Rattle.std.proofs.Common.{◌≡◌, ℕ, zero, suc, ◌-◌, ◌*◌, ◌/◌, ◌%◌, ◌^◌, ◌<◌, ◌≤◌, List, [], ◌∷◌, length, true, not, refl, sym, ap, ◌∙◌, subst, arith, ℤ, pos, negsuc, ◌-ℤ◌, ◌<ℤ◌, ◌≤ℤ◌}
use Rattle.std.specs.Prelude.{◌&&◌, nat_lt, int_lt}
use Rattle.std.specs.List.{list_all}
use Rattle.std.proofs.Math.Nat.{mod-lt, pow-succ', mod-eq_of_lt}
use Rattle.std.proofs.lemmas.Bool.{and_parts, cond_both, lt-ltb, ltb-true, ltb-false}
use Rattle.std.proofs.lemmas.Int.{ints}
use Rattle.jz_words.specs.Words.{modulo}
use Rattle.jz_words.specs.declared.size.Size.{Size}
use Rattle.jz_words.specs.declared.size.Size.TheVariants.{S8, S16, S32, S64}
use Rattle.x64_insn.specs.Table.{immediate_by}
use Rattle.x64_insn.specs.Encoding.{is_byte, AreBytes, unsigned_of, signed_from, signed_of}
use Rattle.x64_insn.specs.Chosen.{bytes_of_number, signed_bytes, fits_bytes}

-- ---- bytes of a number
pub length_is : (k n : ℕ) → length (bytes_of_number k n) ≡ k
length_is zero n = refl
length_is (suc k) n = let e = length_is k (n / 256) in omega (arith, e)

a_byte : (n : ℕ) → is_byte (n % 256) ≡ true
a_byte n = lt-ltb (n % 256) 256 (omega arith)

all_bytes : (k n : ℕ) → list_all is_byte (bytes_of_number k n) ≡ true
all_bytes zero n = refl
all_bytes (suc k) n = rw (a_byte n) (all_bytes k (n / 256))

pub are_bytes : (k n : ℕ) → AreBytes k (bytes_of_number k n)
are_bytes k n = (length_is k n, all_bytes k n)

pub read_back : (k n : ℕ) → n < 256 ^ k → unsigned_of (bytes_of_number k n) ≡ n
read_back zero n h = omega (arith, h)
read_back (suc k) n h =
    let p = pow-succ' 256 k in
    let e = read_back k (n / 256) (omega (arith, h, p)) in
    omega (arith, e)

-- so many bytes are below so many numbers
pub unsigned_small : (bs : List ℕ) → list_all is_byte bs ≡ true → unsigned_of bs < 256 ^ length bs
unsigned_small [] h = omega arith
unsigned_small (b ∷ bs) h =
    let t = and_parts (is_byte b) (list_all is_byte bs) h in
    let x = ltb-true b 256 t.0 in
    let y = unsigned_small bs t.1 in
    let p = pow-succ' 256 (length bs) in
    omega (arith, x, y, p)

-- ---- signed numbers
-- a signed number within its half is read back
pub signed_back : (half : ℕ) (i : ℤ) → (pos 0 -ℤ pos half) ≤ℤ i → i <ℤ pos half → signed_from (modulo i (2 * half)) (2 * half) ≡ i
unfolding signed_from
signed_back half (pos n) low high =
    let h : n < half = omega (arith, ints, high) in
    let m : n % (2 * half) ≡ n = mod-eq_of_lt (omega (arith, h)) in
    cond_both (nat_lt (2 * (n % (2 * half))) (2 * half)) _ _ (λ z. z ≡ pos n) (λ e. ap pos m) (λ e. absurd (omega (arith, h, m, ltb-false _ _ e)))
signed_back half (negsuc n) low high =
    let h : suc n ≤ half = omega (arith, ints, low) in
    let m : n % (2 * half) ≡ n = mod-eq_of_lt (omega (arith, h)) in
    cond_both (nat_lt (2 * (2 * half - 1 - n % (2 * half))) (2 * half)) _ _ (λ z. z ≡ negsuc n) (λ e. absurd (omega (arith, h, m, ltb-true _ _ e))) (λ e. omega (arith, ints, h, m))

-- what bytes hold is within the half
pub signed_low : (half n : ℕ) → n < 2 * half → (pos 0 -ℤ pos half) ≤ℤ signed_from n (2 * half)
unfolding signed_from
signed_low half n h = cond_both (nat_lt (2 * n) (2 * half)) _ _ (λ z. (pos 0 -ℤ pos half) ≤ℤ z) (λ e. omega (arith, ints)) (λ e. omega (arith, ints, ltb-false _ _ e))

pub signed_high : (half n : ℕ) → n < 2 * half → signed_from n (2 * half) <ℤ pos half
unfolding signed_from
signed_high half n h = cond_both (nat_lt (2 * n) (2 * half)) _ _ (λ z. z <ℤ pos half) (λ e. omega (arith, ints, ltb-true _ _ e)) (λ e. omega (arith, ints, h))

-- ---- the test
pub within : (low high i : ℤ) → (not (int_lt i low) && int_lt i high) ≡ true → (low ≤ℤ i) × (i <ℤ high)
within low high i h = let t = and_parts (not (int_lt i low)) (int_lt i high) h in (grind (arith, ints), grind (arith, ints))

passes : (low high i : ℤ) → low ≤ℤ i → i <ℤ high → (not (int_lt i low) && int_lt i high) ≡ true
passes low high i a b = grind (arith, ints)

pub fits_within : (k : ℕ) (i : ℤ) → fits_bytes k i ≡ true → ((pos 0 -ℤ pos (256 ^ k / 2)) ≤ℤ i) × (i <ℤ pos (256 ^ k / 2))
fits_within k i h = within _ _ i h

pub within_fits : (k : ℕ) (i : ℤ) → (pos 0 -ℤ pos (256 ^ k / 2)) ≤ℤ i → i <ℤ pos (256 ^ k / 2) → fits_bytes k i ≡ true
within_fits k i a b = passes _ _ i a b

-- ---- bytes of a signed number that they can hold
modulo_small : (all : ℕ) (i : ℤ) → 0 < all → modulo i all < all
modulo_small all (pos n) h = mod-lt n h
modulo_small all (negsuc n) h = omega (arith, h)

read_signed : (k half : ℕ) (i : ℤ) → 256 ^ k ≡ 2 * half → 0 < half → (pos 0 -ℤ pos half) ≤ℤ i → i <ℤ pos half → signed_of (signed_bytes k i) ≡ i
read_signed k half i e h low high =
    let m = modulo_small (256 ^ k) i (omega (arith, e, h)) in
    ap (λ n. signed_from n (256 ^ length (signed_bytes k i))) (read_back k (modulo i (256 ^ k)) m)
    ∙ ap (λ l. signed_from (modulo i (256 ^ k)) (256 ^ l)) (length_is k (modulo i (256 ^ k)))
    ∙ ap (λ all. signed_from (modulo i all) all) e
    ∙ signed_back half i low high

pub one_byte : (i : ℤ) → fits_bytes 1 i ≡ true → signed_of (signed_bytes 1 i) ≡ i
one_byte i h = let w = fits_within 1 i h in read_signed 1 128 i refl (omega arith) w.0 w.1

pub two_bytes : (i : ℤ) → fits_bytes 2 i ≡ true → signed_of (signed_bytes 2 i) ≡ i
two_bytes i h = let w = fits_within 2 i h in read_signed 2 (2 ^ 15) i refl (omega arith) w.0 w.1

pub four_bytes : (i : ℤ) → fits_bytes 4 i ≡ true → signed_of (signed_bytes 4 i) ≡ i
four_bytes i h = let w = fits_within 4 i h in read_signed 4 (2 ^ 31) i refl (omega arith) w.0 w.1

pub eight_bytes : (i : ℤ) → fits_bytes 8 i ≡ true → signed_of (signed_bytes 8 i) ≡ i
eight_bytes i h = let w = fits_within 8 i h in read_signed 8 (2 ^ 63) i refl (omega arith) w.0 w.1

pub sized_bytes : (size : Size) (i : ℤ) → fits_bytes (immediate_by size) i ≡ true → signed_of (signed_bytes (immediate_by size) i) ≡ i
sized_bytes S8 i h = one_byte i h
sized_bytes S16 i h = two_bytes i h
sized_bytes S32 i h = four_bytes i h
sized_bytes S64 i h = four_bytes i h

pub signed_are_bytes : (k : ℕ) (i : ℤ) → AreBytes k (signed_bytes k i)
signed_are_bytes k i = are_bytes k (modulo i (256 ^ k))

-- what bytes hold, more bytes can hold
pub bytes_fit : (k more half : ℕ) (bs : List ℕ) → 256 ^ k ≡ 2 * half → half ≤ 256 ^ more / 2 → AreBytes k bs → fits_bytes more (signed_of bs) ≡ true
bytes_fit k more half bs e le are =
    let all : 256 ^ length bs ≡ 2 * half = ap (λ n. 256 ^ n) are.0 ∙ e in
    let small : unsigned_of bs < 2 * half = subst (λ n. unsigned_of bs < n) all (unsigned_small bs are.1) in
    subst (λ n. fits_bytes more (signed_from (unsigned_of bs) n) ≡ true) (sym all)
    (within_fits more _ (omega (arith, ints, le, signed_low half (unsigned_of bs) small)) (omega (arith, ints, le, signed_high half (unsigned_of bs) small)))
