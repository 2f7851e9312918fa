-- Sizes of words, and the numbers that go with them.
use Rattle.std.specs.Prelude.{ℕ, ◌-◌, ◌^◌, nat_lt, if◌then◌else◌, ℤ, pos, ◌-ℤ◌}
use Rattle.jz_words.specs.declared.size.Size.{Size}
use Rattle.jz_words.specs.declared.size.Size.TheVariants.{S8, S16, S32, S64}

abbrev pub bits_of : Size → ℕ
bits_of S8 = 8
bits_of S16 = 16
bits_of S32 = 32
bits_of S64 = 64

abbrev pub bytes_of : Size → ℕ
bytes_of S8 = 1
bytes_of S16 = 2
bytes_of S32 = 4
bytes_of S64 = 8

-- how many words of a size there are
abbrev pub modulus : Size → ℕ
modulus s = 2 ^ bits_of s

-- the least word whose sign is minus
abbrev pub half : Size → ℕ
half s = 2 ^ (bits_of s - 1)

-- a word as a signed number
unfoldable pub signed : Size → ℕ → ℤ
signed s a = if nat_lt a (half s) then pos a else pos a -ℤ pos (modulus s)
