-- Numbers among words.
use Rattle.std.specs.Prelude.{ℕ, ◌^◌, nat_lt, Bool, false, not, ◌&&◌, ◌==◌, if◌then◌else◌}
use Rattle.std.specs.Prelude.{List, ◌∷◌, drop, length, Option, Some, None, codes}
use Rattle.std.specs.List.{list_all, starts_with}
use Rattle.std.specs.Char.{digit_value}
use Rattle.std.specs.Str.Parse.{digits_value}

abbrev pub is_numeral : ℕ → List ℕ → Bool
is_numeral base digits =
    not (length digits == 0) && list_all (λ c. nat_lt (digit_value c) base) digits

-- the number that digits write, if it is below 2^64
abbrev pub numeral : ℕ → List ℕ → Option ℕ
numeral base digits =
    if is_numeral base digits && nat_lt (digits_value base digits) (2 ^ 64)
    then Some (digits_value base digits) else None

-- a zero with more behind it
abbrev pub has_leading_zero : List ℕ → Bool
has_leading_zero (c ∷ d ∷ ds) = c == 48
has_leading_zero ds = false

-- the number that a word is: decimal digits without a leading zero, or `0x` and hexadecimal digits
-- of either case
abbrev pub number_of_word : List ℕ → Option ℕ
number_of_word word =
    if starts_with ◌==◌ word (codes "0x") then numeral 16 (drop 2 word)
    else (if has_leading_zero word then None else numeral 10 word)
