-- Signed numbers: the one that a word is read as, and which have room in so many bytes.
use Rattle.std.specs.Prelude.{ℕ, ◌/◌, ◌^◌, ℤ, pos, ◌-ℤ◌, int_lt, Bool, not, ◌&&◌}
use Rattle.jz_words.specs.declared.size.Size.{Size}
use Rattle.jz_words.specs.Sizes.{signed}
use Rattle.jz_words.specs.Words.{residue}

-- the signed reading of the word that a number stands for
abbrev pub reading_of : Size → ℤ → ℤ
reading_of s i = signed s (residue s i)

-- whether so many bytes, read with a sign, hold a number; an immediate of so many bytes then does
abbrev pub fits_bytes : ℕ → ℤ → Bool
fits_bytes k i = not (int_lt i (pos 0 -ℤ pos (256 ^ k / 2))) && int_lt i (pos (256 ^ k / 2))
