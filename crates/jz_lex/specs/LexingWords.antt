-- Lexemes: the words, numerals, casts, strings and signs of the language, and which token each one
-- is.
use Rattle.std.specs.Prelude.{ℕ, ◌-◌, List, [], ◌∷◌, ◌++◌, Bool, false, not, ◌&&◌, ◌||◌, ◌==◌, nat_lt, if◌then◌else◌, length, take, drop, map, codes, pos, bytes_eq}
use Rattle.std.specs.List.{list_all, list_any, filter, starts_with, ends_with}
use Rattle.std.specs.Char.{is_ascii_alphabetic, is_ascii_digit, is_ascii_hexdigit, digit_value}
use Rattle.std.specs.Int.Digits.{number_from_digits}
use Rattle.jz_lex.specs.declared.token.TokenKind.{TokenKind}
use Rattle.jz_lex.specs.declared.token.TokenKind.TheVariants.{Ident, Keyword, Num, Cast, Str, Sign}
use Rattle.jz_words.specs.declared.size.Size.TheVariants.{S8, S16, S32, S64}

-- the words that are no identifiers
unfoldable pub keywords : List (List ℕ)
keywords = codes "param" ∷ codes "int" ∷ codes "inline" ∷ codes "export" ∷ codes "fn" ∷ codes "reg" ∷ codes "stack" ∷ codes "bool" ∷ codes "u8" ∷ codes "u16" ∷ codes "u32" ∷ codes "u64" ∷ codes "return" ∷ codes "if" ∷ codes "else" ∷ codes "while" ∷ codes "for" ∷ codes "to" ∷ codes "downto" ∷ codes "true" ∷ codes "false" ∷ codes "_" ∷ []

-- the casts, the longer ones first: a size, with `s` where the sign is extended and `u` where it is
-- not
unfoldable pub casts : List (List ℕ)
casts = codes "16u" ∷ codes "32u" ∷ codes "64u" ∷ codes "16s" ∷ codes "32s" ∷ codes "64s" ∷ codes "8u" ∷ codes "8s" ∷ []

-- the signs, the longer ones first
unfoldable pub signs : List (List ℕ)
signs = codes ">>s=" ∷ codes "<<r=" ∷ codes ">>r=" ∷ codes "<<=" ∷ codes ">>=" ∷ codes "/s=" ∷ codes "%s=" ∷ codes "+=" ∷ codes "-=" ∷ codes "*=" ∷ codes "/=" ∷ codes "%=" ∷ codes "&=" ∷ codes "|=" ∷ codes "^=" ∷ codes "->" ∷ codes "==" ∷ codes "!=" ∷ codes "<=" ∷ codes ">=" ∷ codes "<<" ∷ codes ">>" ∷ codes "&&" ∷ codes "||" ∷ codes "(" ∷ codes ")" ∷ codes "{" ∷ codes "}" ∷ codes "[" ∷ codes "]" ∷ codes "," ∷ codes ";" ∷ codes ":" ∷ codes "#" ∷ codes "=" ∷ codes "+" ∷ codes "-" ∷ codes "*" ∷ codes "/" ∷ codes "%" ∷ codes "&" ∷ codes "|" ∷ codes "^" ∷ codes "<" ∷ codes ">" ∷ codes "!" ∷ []

-- the signs whose last letter must not go on as a name, the longer ones first
unfoldable pub suffixed_signs : List (List ℕ)
suffixed_signs = codes ">>s" ∷ codes "<<r" ∷ codes ">>r" ∷ codes "<=s" ∷ codes ">=s" ∷ codes "<s" ∷ codes ">s" ∷ codes "/s" ∷ codes "%s" ∷ []

-- w is one of these words
abbrev pub is_among : List (List ℕ) → List ℕ → Bool
is_among words w = list_any (λ v. bytes_eq v w) words

-- a letter or an underscore
unfoldable pub begins_word : ℕ → Bool
begins_word b = is_ascii_alphabetic b || (b == 95)

-- a letter, a digit or an underscore
unfoldable pub in_word : ℕ → Bool
in_word b = is_ascii_alphabetic b || is_ascii_digit b || (b == 95)

-- a decimal digit
unfoldable pub is_digit : ℕ → Bool
is_digit b = is_ascii_digit b

-- a decimal digit or an underscore
unfoldable pub in_decimal : ℕ → Bool
in_decimal b = is_ascii_digit b || (b == 95)

-- a hexadecimal digit of either case
unfoldable pub is_hex_digit : ℕ → Bool
is_hex_digit b = is_ascii_hexdigit b

-- a hexadecimal digit or an underscore
unfoldable pub in_hexadecimal : ℕ → Bool
in_hexadecimal b = is_ascii_hexdigit b || (b == 95)

-- an identifier or a keyword
abbrev pub is_word : List ℕ → Bool
is_word [] = false
is_word (b ∷ bs) = begins_word b && list_all in_word bs

-- decimal digits, with underscores after the first
abbrev pub is_decimal : List ℕ → Bool
is_decimal [] = false
is_decimal (b ∷ bs) = is_digit b && list_all in_decimal bs

-- hexadecimal digits, with underscores after the first
abbrev pub are_hex_digits : List ℕ → Bool
are_hex_digits [] = false
are_hex_digits (b ∷ bs) = is_hex_digit b && list_all in_hexadecimal bs

-- `0x` and hexadecimal digits
abbrev pub is_hexadecimal : List ℕ → Bool
is_hexadecimal (a ∷ b ∷ bs) = (a == 48) && (b == 120) && are_hex_digits bs
is_hexadecimal bs = false

-- a number's spelling
abbrev pub is_numeral : List ℕ → Bool
is_numeral w = is_decimal w || is_hexadecimal w

-- the text begins with w
abbrev pub begins : List ℕ → List ℕ → Bool
begins w text = starts_with ◌==◌ text w

-- the number that the digits among these bytes write in a base: underscores count for nothing
abbrev pub digits_number : ℕ → List ℕ → ℕ
digits_number base bs = number_from_digits base (map digit_value (filter (λ b. nat_lt (digit_value b) base) bs))

-- the number that a numeral writes: hexadecimal behind `0x`, else decimal
unfoldable pub value_of_numeral : List ℕ → ℕ
value_of_numeral w = if begins (codes "0x") w then digits_number 16 (drop 2 w) else digits_number 10 w

-- the first byte passes
abbrev pub heads : (ℕ → Bool) → List ℕ → Bool
heads test [] = false
heads test (b ∷ bs) = test b

-- a byte that may stand in a string: no quote and no line feed
unfoldable pub in_string : ℕ → Bool
in_string b = not (b == 34) && not (b == 10)

-- the bytes without the first one and the last one
abbrev pub inner : List ℕ → List ℕ
inner w = take (length w - 2) (drop 1 w)

-- a quote, bytes that may stand in a string, and a quote
abbrev pub is_string : List ℕ → Bool
is_string w = bytes_eq w (34 ∷ (inner w ++ 34 ∷ [])) && list_all in_string (inner w)

-- a sign's spelling where more follows: the one place where a lexeme depends on what follows it
abbrev pub is_sign : List ℕ → List ℕ → Bool
is_sign w more = is_among signs w || (is_among suffixed_signs w && not (heads in_word more))

-- a spelling of a token where more follows
abbrev pub is_lexeme : List ℕ → List ℕ → Bool
is_lexeme w more = is_word w || is_numeral w || is_among casts w || is_string w || is_sign w more

-- the token of a word
abbrev pub word_kind : List ℕ → TokenKind
word_kind w = if is_among keywords w then Keyword w else Ident w

-- the token of a cast: the size that it begins with, and whether it ends with an `s`
abbrev pub cast_kind : List ℕ → TokenKind
cast_kind w = Cast (if begins (codes "8") w then S8 else if begins (codes "16") w then S16 else if begins (codes "32") w then S32 else S64) (ends_with ◌==◌ w (codes "s"))

-- the token that a lexeme spells
abbrev pub kind_of_word : List ℕ → TokenKind
kind_of_word w = if is_word w then word_kind w else if is_numeral w then Num (pos (value_of_numeral w)) else if is_among casts w then cast_kind w else if is_string w then Str (inner w) else Sign w
