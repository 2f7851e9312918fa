-- What stands at the front of a text, and how it is found.
use Rattle.std.specs.Prelude.{◌≡◌, ℕ, ℤ, pos, ◌+◌, ◌^◌, List, [], ◌∷◌, ◌++◌, Bool, true, false, not, ◌&&◌, ◌==◌, nat_lt, if◌then◌else◌, Option, Some, None, option_map, length, take, drop, find, codes}
use Rattle.std.specs.List.{take_while}
use Rattle.jz_lex.specs.LexingWords.{begins, heads, casts, signs, suffixed_signs, is_among, in_word, is_word, is_numeral, is_hexadecimal, in_decimal, in_hexadecimal, in_string, is_string, value_of_numeral}
use Rattle.jz_lex.specs.Lexing.{begins_comment, IsSkipped, Longest, is_no_number, HasNone}
use Rattle.jz_lex.specs.declared.front.Shape.{Shape}
use Rattle.jz_lex.specs.declared.front.Shape.TheVariants as shape
use Rattle.jz_lex.specs.declared.front.Front.{Front}
use Rattle.jz_lex.specs.declared.front.Front.TheVariants as front

-- the number, where it is at most 2 ^ 127 - 1
abbrev pub kept_number : ℕ → Option ℤ
kept_number n = if nat_lt n (2 ^ 127) then Some (pos n) else None

-- the number, where it is below 2 ^ 128
abbrev pub wide_number : ℕ → Option ℕ
wide_number n = if nat_lt n (2 ^ 128) then Some n else None

-- w stands at the front of the text, and if it is to stand apart, its last letter does not go on as
-- a name
abbrev pub fits : Bool → List ℕ → List ℕ → Bool
fits apart w text = begins w text && not (apart && heads in_word (drop (length w) text))

-- the first of these words that fits
abbrev pub first_of : Bool → List (List ℕ) → List ℕ → Option (List ℕ)
first_of apart ws text = find (λ w. fits apart w text) ws

-- the longer one
abbrev pub longer : Option (List ℕ) → Option (List ℕ) → Option (List ℕ)
longer None b = b
longer (Some v) None = Some v
longer (Some v) (Some w) = if nat_lt (length v) (length w) then Some w else Some v

-- the longest sign at the front of the text
abbrev pub sign_of : List ℕ → Option (List ℕ)
sign_of text = longer (first_of false signs text) (first_of true suffixed_signs text)

-- how long the string is whose quote stands before this text, without that quote
unfoldable pub string_length : List ℕ → Option ℕ
string_length text = if heads (λ b. b == 34) (drop (length (take_while in_string text)) text) then Some (length (take_while in_string text) + 1) else None

-- how many bytes stand before the first `*/`
unfoldable pub before_end : List ℕ → Option ℕ
before_end [] = None
before_end (b ∷ bs) = if begins (codes "*/") (b ∷ bs) then Some 0 else option_map (λ n. 1 + n) (before_end bs)

-- how long the numeral is at the front of a text that begins with a digit
unfoldable pub numeral_length : List ℕ → ℕ
numeral_length text = if is_hexadecimal (take 3 text) then 3 + length (take_while in_hexadecimal (drop 3 text)) else 1 + length (take_while in_decimal (drop 1 text))

-- what sort of lexeme these bytes are, and a numeral's number
abbrev pub shape_of : List ℕ → Shape
shape_of w = if is_word w then shape.Word else if is_numeral w then shape.Number (pos (value_of_numeral w)) else if is_among casts w then shape.Cast else if is_string w then shape.Str else shape.Sign

-- what stands at the front of the text: bytes that are skipped, the longest lexeme, or no token
abbrev pub IsFront : List ℕ → Front → Type 0
IsFront text (front.Skipped n) = (w : List ℕ) × (more : List ℕ) × (text ≡ w ++ more) × (length w ≡ n) × IsSkipped w more
IsFront text (front.Lexeme s n) = (w : List ℕ) × (more : List ℕ) × (text ≡ w ++ more) × (length w ≡ n) × (begins_comment text ≡ false) × Longest w more × (is_no_number w more ≡ false) × (shape_of w ≡ s)
IsFront text (front.NoToken k) = HasNone k text
