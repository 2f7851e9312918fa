-- Signed readings of words, and the words that they stand for.
use Rattle.std.proofs.Common.{◌≡◌, ℕ, ◌+◌, ◌-◌, ◌*◌, ◌%◌, ◌^◌, ◌<◌, ◌≤◌, true, refl, ap, arith, ℤ, pos, negsuc, ◌-ℤ◌, ◌<ℤ◌, ◌≤ℤ◌}
use Rattle.std.specs.Prelude.{nat_lt, Some, None, is_some, IfSome, IsSome, if◌then◌else◌}
use Rattle.std.proofs.Math.Nat.{mod-eq_of_lt}
use Rattle.std.proofs.lemmas.Bool.{cond_both, cond-true, ltb-true, ltb-false}
use Rattle.std.proofs.lemmas.Int.{ints}
use Rattle.jz_words.specs.declared.size.Size.{Size}
use Rattle.jz_words.specs.declared.size.Size.TheVariants.{S8, S16, S32, S64}
use Rattle.jz_words.specs.Sizes.{bits_of, half, modulus, signed}
use Rattle.jz_words.specs.Words.{modulo, residue}
use Rattle.jz_words.proofs.Residues.{residue_below}
use Rattle.jz_words.specs.Readings.{fits_bytes, reading_of}
use Rattle.jz_select.specs.Immediates.{immediate_of}

-- ---- a word and its reading
back : (a m : ℕ) (z : ℤ) → z ≡ pos a -ℤ pos m → a < m → modulo z m ≡ a
back a m (pos n) e lt = absurd (omega (arith, ints, e, lt))
back a m (negsuc n) e lt =
    let is : n + a + 1 ≡ m = omega (arith, ints, e) in
    let same : n % m ≡ n = mod-eq_of_lt (omega (arith, is)) in
    let out : m - 1 - n % m ≡ m - 1 - n = ap (λ x. m - 1 - x) same in
    omega (arith, is, out)

-- the signed reading of a word stands for the word
stands_for : (s : Size) (a : ℕ) → a < modulus s → residue s (signed s a) ≡ a
unfolding signed
stands_for s a lt =
    cond_both (nat_lt a (half s)) (pos a) (pos a -ℤ pos (modulus s)) (λ z. residue s z ≡ a)
    (λ t. mod-eq_of_lt lt)
    (λ f. back a (modulus s) (pos a -ℤ pos (modulus s)) refl lt)

pub same_word : (s : Size) (n : ℤ) → IfSome (immediate_of s n) (λ k. residue s k ≡ residue s n)
same_word s n =
    cond_both (fits_bytes 4 (reading_of s n)) (Some (reading_of s n)) None (λ o. IfSome o (λ k. residue s k ≡ residue s n))
    (λ t. stands_for s (residue s n) (residue_below s n))
    (λ f. tt)

-- ---- up to 32 bits
short_by : (z : ℤ) → (pos 0 -ℤ pos (2 ^ 31)) ≤ℤ z → z <ℤ pos (2 ^ 31) → fits_bytes 4 z ≡ true
short_by z low high = grind (arith, ints)

is_within : (h m a : ℕ) → m ≡ 2 * h → h ≤ 2 ^ 31 → a < m → fits_bytes 4 (if nat_lt a h then pos a else (pos a -ℤ pos m)) ≡ true
is_within h m a e le lt =
    cond_both (nat_lt a h) (pos a) (pos a -ℤ pos m) (λ z. fits_bytes 4 z ≡ true)
    (λ t. let below = ltb-true a h t in short_by (pos a) (omega (arith, ints)) (omega (arith, ints, below, le)))
    (λ f. let above = ltb-false a h f in short_by (pos a -ℤ pos m) (omega (arith, ints, above, e, le)) (omega (arith, ints, lt)))

reads_short : (s : Size) (a : ℕ) → bits_of s ≤ 32 → a < modulus s → fits_bytes 4 (signed s a) ≡ true
unfolding signed
reads_short S8 a le lt = is_within (half S8) (modulus S8) a refl (omega arith) lt
reads_short S16 a le lt = is_within (half S16) (modulus S16) a refl (omega arith) lt
reads_short S32 a le lt = is_within (half S32) (modulus S32) a refl (omega arith) lt
reads_short S64 a le lt = absurd (omega (arith, le))

pub has_one : (s : Size) (n : ℤ) → bits_of s ≤ 32 → IsSome (immediate_of s n)
has_one s n le =
    let short = reads_short s (residue s n) le (residue_below s n) in
    ap is_some (cond-true (fits_bytes 4 (reading_of s n)) (Some (reading_of s n)) None short)
