-- What private contracts say of the digits of a text.
use Rattle.std.specs.Prelude.{◌≡◌, ◌⊎◌, ℕ, suc, ◌+◌, true, if◌then◌else◌, List, [], ◌∷◌, ◌++◌, length, Option, Some, None, Result, Ok, Err}
use Rattle.jz_data.specs.declared.failure.Failure.{Failure}
use Rattle.jz_data.specs.declared.failure.Failure.TheVariants.{Refused, OutOfMemory}
use Rattle.jz_disasm.specs.declared.hexadecimal.Digits.{Digits}
use Rattle.std.specs.List.{AllPass}
use Rattle.hex.specs.Hex.{is_hex_digit}
use Rattle.jz_disasm.specs.Hexadecimal.{is_blank, is_hex_byte, digits_of}

-- the last digit stands just before this offset
pub record HasLastDigit (text : List ℕ) (offset : ℕ) : Type 0 where
  pub front : List ℕ
  pub digit : ℕ
  pub rest : List ℕ
  pub splits : text ≡ front ++ digit ∷ rest
  pub allowed : AllPass is_hex_byte front
  pub is_digit : is_hex_digit digit ≡ true
  pub blanks : AllPass is_blank rest
  pub offset_is : offset ≡ suc (length front)

-- Digits and blanks are all that stands in the text, and these are its digits.
pub record AreDigits (text digits : List ℕ) (end : ℕ) : Type 0 where
  pub allowed : AllPass is_hex_byte text
  pub digits_are : digits ≡ digits_of text
  pub last : (AllPass is_blank text × (digits ≡ [])) ⊎ HasLastDigit text end

-- digits and their end with one byte more, which stands at an offset
unfoldable pub after_byte : List ℕ → ℕ → ℕ → ℕ → Option (List ℕ × ℕ)
after_byte digits end offset byte =
    if is_hex_digit byte then Some (digits ++ byte ∷ [], offset + 1)
    else if is_blank byte then Some (digits, end) else None

-- what the code answers: these, or the offset
abbrev pub Took : Result Digits (Failure ℕ) → ℕ → Option (List ℕ × ℕ) → Type 0
Took (Ok d) offset made = made ≡ Some (d.digits, d.end)
Took (Err (Refused n)) offset made = (n ≡ offset) × (made ≡ None)
Took (Err OutOfMemory) offset made = Unit {0}
