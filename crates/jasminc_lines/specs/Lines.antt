-- The lines that tell runs.
use Rattle.std.specs.Prelude.{ℕ, ◌-◌, List, ◌++◌, drop, codes, decimal}
use Rattle.std.specs.Int.{w64, to_be_bytes}
use Rattle.hex.specs.Hex.{encode_lower}
use Rattle.jz_words.specs.declared.size.Size.{Size}
use Rattle.jz_words.specs.Sizes.{bytes_of}

-- bytes in hexadecimal digits
abbrev pub hexadecimal : List ℕ → List ℕ
hexadecimal bytes = codes "0x" ++ encode_lower bytes

-- a number of 64 bits
abbrev pub quadword_text : ℕ → List ℕ
quadword_text n = hexadecimal (to_be_bytes w64 n)

-- the low bits of a number, as many as the size has
abbrev pub word_text : Size → ℕ → List ℕ
word_text s n = hexadecimal (drop (8 - bytes_of s) (to_be_bytes w64 n))

-- a result: its name, and the low bits of a number as its word
abbrev pub result_text : List ℕ → Size → ℕ → List ℕ
result_text name size n =
    codes "result " ++ name ++ codes " " ++ word_text size n ++ codes "\n"

-- a run that was cut after so many steps or turns
abbrev pub cut_line : ℕ → List ℕ
cut_line n = codes "cut " ++ decimal n ++ codes "\n"
