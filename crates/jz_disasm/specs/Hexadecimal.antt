-- Bytes as hexadecimal text with blanks.
use Rattle.std.specs.Prelude.{◌≡◌, ◌⊎◌, ℕ, suc, ◌%◌, Bool, true, false, ◌||◌, ◌==◌, List, ◌∷◌, ◌++◌, length, Result, Ok, Err}
use Rattle.std.specs.List.{AllPass, filter}
use Rattle.hex.specs.Hex.{is_hex_digit, decode_of}

-- a tab, a line end or a space
abbrev pub is_blank : ℕ → Bool
is_blank c = (c == 9) || ((c == 10) || ((c == 13) || (c == 32)))

-- what may stand in the text
abbrev pub is_hex_byte : ℕ → Bool
is_hex_byte c = is_hex_digit c || is_blank c

-- the digits of a text
abbrev pub digits_of : List ℕ → List ℕ
digits_of text = filter is_hex_digit text

-- The text is digits and blanks, and its digits are those of bytes, two for each.
pub record IsHexOf (text bytes : List ℕ) : Type 0 where
  pub allowed : AllPass is_hex_byte text
  pub digits : decode_of (digits_of text) ≡ Ok bytes

-- the first byte that is no digit and no blank stands at this offset
pub record IsFirstOther (text : List ℕ) (offset : ℕ) : Type 0 where
  pub front : List ℕ
  pub other : ℕ
  pub rest : List ℕ
  pub splits : text ≡ front ++ other ∷ rest
  pub allowed : AllPass is_hex_byte front
  pub is_other : is_hex_byte other ≡ false
  pub offset_is : offset ≡ length front

-- the digits are odd in number, and the last of them stands just before this offset
pub record IsOdd (text : List ℕ) (offset : ℕ) : Type 0 where
  pub front : List ℕ
  pub digit : ℕ
  pub rest : List ℕ
  pub splits : text ≡ front ++ digit ∷ rest
  pub allowed : AllPass is_hex_byte front
  pub is_digit : is_hex_digit digit ≡ true
  pub blanks : AllPass is_blank rest
  pub odd : length (digits_of text) % 2 ≡ 1
  pub offset_is : offset ≡ suc (length front)

-- where a text is no hexadecimal text of bytes
abbrev pub IsHexFault : List ℕ → ℕ → Type 0
IsHexFault text offset = IsFirstOther text offset ⊎ IsOdd text offset

-- the bytes, or the place of the fault
abbrev pub ReadsHex : List ℕ → Result (List ℕ) ℕ → Type 0
ReadsHex text (Ok bytes) = IsHexOf text bytes
ReadsHex text (Err offset) = IsHexFault text offset
