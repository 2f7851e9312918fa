-- The immediate of an inline operand of an instruction.
use Rattle.std.specs.Prelude.{Option, Some, None, if◌then◌else◌, ℤ}
use Rattle.jz_words.specs.declared.size.Size.{Size}
use Rattle.jz_words.specs.Readings.{fits_bytes, reading_of}

-- the number, where 32 bits with a sign hold it
abbrev pub if_short : ℤ → Option ℤ
if_short n = if fits_bytes 4 n then Some n else None

-- at 8, 16 and 32 bits there always is one; an instruction of 64 bits has 32, which are
-- sign-extended
abbrev pub immediate_of : Size → ℤ → Option ℤ
immediate_of s n = if_short (reading_of s n)
