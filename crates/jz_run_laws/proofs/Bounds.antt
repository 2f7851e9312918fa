-- Results of operations are words of their size.
use Rattle.std.proofs.Common.{◌≡◌, ℕ, ◌+◌, ◌-◌, ◌*◌, ◌/◌, ◌%◌, ◌^◌, ◌<◌, ◌≤◌, Bool, true, false, Some, None, refl, sym, subst, arith, bit_and, bit_or, bit_xor, if◌then◌else◌, lt_of_le_of_lt, div-le_self}
use Rattle.std.proofs.lemmas.Nat.{mod_below, div_below, mul-lt, and_le_l, or_lt, xor_lt, div-add-mod'}
use Rattle.jz_tree.specs.Size.{Size}
use Rattle.jz_tree.specs.Size.TheVariants.{S8, S16, S32, S64}
use Rattle.jz_tree.specs.Sizes.{bits_of, modulus}
use Rattle.jz_tree.specs.Words.{carried, swapped_of}
use Rattle.jz_tree.proofs.Residues.{some_words}
use Rattle.jz_meaning.specs.Operators.{same_size, word_of}
use Rattle.jz_meaning.specs.States.{Value, word, boolean, integer}
use Rattle.jz_meaning.proofs.Widths.{equal_sizes}
use Rattle.jz_tree.proofs.Residues.{residue_below}
use Rattle.jz_run_laws.specs.Kinds.{FitsSize}
use Rattle.jz_run_laws.proofs.Parts.{IfThere}

abbrev pub IsBelow : Size → ℕ → Type 0
IsBelow s a = a < modulus s

pub cut_below : (s : Size) (a : ℕ) → a % modulus s < modulus s
cut_below s a = mod_below a (modulus s) (some_words s)

pub quotient_below : (s : Size) (a b : ℕ) → a < modulus s → a / b < modulus s
quotient_below s a b lt = lt_of_le_of_lt (div-le_self a b) lt

second_le : (q r a : ℕ) → q + r ≡ a → r ≤ a
second_le q r a e = omega (arith, e)

rest_le : (a b : ℕ) → a % b ≤ a
rest_le a b = second_le (a / b * b) (a % b) a (div-add-mod' a b)

pub rest_below : (s : Size) (a b : ℕ) → a < modulus s → a % b < modulus s
rest_below s a b lt = lt_of_le_of_lt (rest_le a b) lt

pub and_below : (s : Size) (a b : ℕ) → a < modulus s → bit_and a b < modulus s
and_below s a b lt = lt_of_le_of_lt (and_le_l a b) lt

pub or_below : (s : Size) (a b : ℕ) → a < modulus s → b < modulus s → bit_or a b < modulus s
or_below s a b la lb = or_lt (bits_of s) a b la lb

pub xor_below : (s : Size) (a b : ℕ) → a < modulus s → b < modulus s → bit_xor a b < modulus s
xor_below s a b la lb = xor_lt (bits_of s) a b la lb

-- the high word of a product
pub high_below : (s : Size) (a b : ℕ) → a < modulus s → b < modulus s → a * b / modulus s < modulus s
high_below s a b la lb = div_below (a * b) (modulus s) (modulus s) (some_words s) (mul-lt a b (modulus s) (modulus s) la lb)

turned : (m a : ℕ) → 0 < m → m - 1 - a < m
turned m a p = omega (arith, p)

pub turned_below : (s : Size) (a : ℕ) → modulus s - 1 - a < modulus s
turned_below s a = turned (modulus s) a (some_words s)

pub bit_below : (s : Size) (c : Bool) → carried c < modulus s
bit_below S8 true = omega arith
bit_below S16 true = omega arith
bit_below S32 true = omega arith
bit_below S64 true = omega arith
bit_below s false = some_words s

-- ---- bytes turned around
two_bytes : (a b : ℕ) → a < 256 → b < 256 → a * 256 + b < 2 ^ 16
two_bytes a b p q = omega arith

four_bytes : (a b c d : ℕ) → a < 256 → b < 256 → c < 256 → d < 256 → a * 16777216 + b * 65536 + c * 256 + d < 2 ^ 32
four_bytes a b c d p q r s = omega arith

eight_bytes : (a b c d e f g h : ℕ) → a < 256 → b < 256 → c < 256 → d < 256 → e < 256 → f < 256 → g < 256 → h < 256
    → a * 72057594037927936 + b * 281474976710656 + c * 1099511627776 + d * 4294967296 + e * 16777216 + f * 65536 + g * 256 + h < 2 ^ 64
eight_bytes a b c d e f g h p q r s t u v w = omega arith

byte : (a : ℕ) → a % 256 < 256
byte a = omega arith

pub swapped_below : (s : Size) (a : ℕ) → a < modulus s → swapped_of s a < modulus s
swapped_below S8 a lt = lt
swapped_below S16 a lt = two_bytes (a % 256) (a / 256 % 256) (byte _) (byte _)
swapped_below S32 a lt = four_bytes (a % 256) (a / 256 % 256) (a / 65536 % 256) (a / 16777216 % 256) (byte _) (byte _) (byte _) (byte _)
swapped_below S64 a lt =
    eight_bytes (a % 256) (a / 256 % 256) (a / 65536 % 256) (a / 16777216 % 256) (a / 4294967296 % 256) (a / 1099511627776 % 256) (a / 281474976710656 % 256) (a / 72057594037927936 % 256)
    (byte _) (byte _) (byte _) (byte _) (byte _) (byte _) (byte _) (byte _)

-- ---- a value in the place of a word
pub word_if : (c : Bool) (s z : Size) (a : ℕ) → same_size s z ≡ c → a < modulus z → IfThere (IsBelow s) (if c then Some a else None)
word_if true s z a e lt = subst (λ y. a < modulus y) (sym (equal_sizes s z e)) lt
word_if false s z a e lt = tt

pub word_below : (s : Size) (v : Value) → FitsSize v → IfThere (IsBelow s) (word_of s v)
word_below s (word z a) h = word_if (same_size s z) s z a refl h
word_below s (integer i) h = residue_below s i
word_below s (boolean c) h = tt
