-- Operations on words of a size, as whole numbers.
use Rattle.std.specs.Prelude.{ℕ, ◌+◌, ◌-◌, ◌*◌, ◌/◌, ◌%◌, ◌^◌, Bool, true, false, ◌==◌, nat_lt, nat_le, count_ones, ℤ, pos, negsuc, ◌*ℤ◌}
use Rattle.std.specs.Int.{w16, w32, w64, bit_at, swap_bytes, int_div_euclid}
use Rattle.jz_words.specs.declared.size.Size.{Size}
use Rattle.jz_words.specs.declared.size.Size.TheVariants.{S8, S16, S32, S64}
use Rattle.jz_words.specs.Sizes.{bits_of, modulus, signed}

-- a carry or a borrow as a number
abbrev pub carried : Bool → ℕ
carried true = 1
carried false = 0

-- a + b + c, and whether the word has no room for it
abbrev pub sum_of : Size → ℕ → ℕ → Bool → ℕ
sum_of s a b c = (a + b + carried c) % modulus s

abbrev pub carry_of : Size → ℕ → ℕ → Bool → Bool
carry_of s a b c = nat_le (modulus s) (a + b + carried c)

-- a - b - c, and whether it is below 0
abbrev pub difference_of : Size → ℕ → ℕ → Bool → ℕ
difference_of s a b c = (a + modulus s - (b + carried c)) % modulus s

abbrev pub borrow_of : ℕ → ℕ → Bool → Bool
borrow_of a b c = nat_lt a (b + carried c)

-- the lowest byte has an even number of ones
abbrev pub has_even_ones : ℕ → Bool
has_even_ones a = count_ones (a % 256) % 2 == 0

-- a signed number modulo another number
abbrev pub modulo : ℤ → ℕ → ℕ
modulo (pos n) m = n % m
modulo (negsuc n) m = m - 1 - n % m

-- the word that a signed number stands for
abbrev pub residue : Size → ℤ → ℕ
residue s z = modulo z (modulus s)

-- bit k, counted from the lowest
abbrev pub has_bit : ℕ → ℕ → Bool
has_bit a k = bit_at a k == 1

-- the bytes in the other order
abbrev pub swapped_of : Size → ℕ → ℕ
swapped_of S8 a = a
swapped_of S16 a = swap_bytes w16 a
swapped_of S32 a = swap_bytes w32 a
swapped_of S64 a = swap_bytes w64 a

-- the product of two words as signed numbers
abbrev pub signed_product : Size → ℕ → ℕ → ℤ
signed_product s a b = signed s a *ℤ signed s b

abbrev pub shl_of : Size → ℕ → ℕ → ℕ
shl_of s a n = a * 2 ^ n % modulus s

abbrev pub shr_of : ℕ → ℕ → ℕ
shr_of a n = a / 2 ^ n

abbrev pub sar_of : Size → ℕ → ℕ → ℕ
sar_of s a n = residue s (int_div_euclid (signed s a) (pos (2 ^ n)))

-- the bits that leave at one end come in at the other
abbrev pub rol_of : Size → ℕ → ℕ → ℕ
rol_of s a n = let k = n % bits_of s in (a * 2 ^ k + a / 2 ^ (bits_of s - k)) % modulus s

abbrev pub ror_of : Size → ℕ → ℕ → ℕ
ror_of s a n = let k = n % bits_of s in (a * 2 ^ (bits_of s - k) + a / 2 ^ k) % modulus s
