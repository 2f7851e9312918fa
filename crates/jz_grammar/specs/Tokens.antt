-- What a token tells.
use Rattle.std.specs.Prelude.{ℕ, ℤ, pos, List, [], ◌∷◌, Bool, false, codes, bytes_eq, if◌then◌else◌}
use Rattle.jz_lex.specs.Span.{Span}
use Rattle.jz_lex.specs.Size.{Size}
use Rattle.jz_lex.specs.Size.TheVariants.{S8, S16, S32, S64}
use Rattle.jz_lex.specs.declared.token.Token.{Token}
use Rattle.jz_lex.specs.declared.token.TokenKind.{TokenKind}
use Rattle.jz_lex.specs.declared.token.TokenKind.TheVariants as kind
use Rattle.jz_grammar.specs.Kinds.{Kind, word}

abbrev pub name_in : TokenKind → List ℕ
name_in (kind.Ident s) = s
name_in other = []

-- the text of an identifier, and where it stands
unfoldable pub name_of : Token → List ℕ × Span
name_of t = (name_in t.kind, t.span)

abbrev pub number_in : TokenKind → ℤ
number_in (kind.Num n) = n
number_in other = pos 0

-- a number, and where it stands
unfoldable pub number_of_token : Token → ℤ × Span
number_of_token t = (number_in t.kind, t.span)

abbrev pub cast_in : TokenKind → Size × Bool
cast_in (kind.Cast size signed) = (size, signed)
cast_in other = (S64, false)

-- the size that a cast gives, and whether it extends the sign
unfoldable pub cast_of : Token → Size × Bool
cast_of t = cast_in t.kind

abbrev pub string_in : TokenKind → List ℕ
string_in (kind.Str s) = s
string_in other = []

-- the bytes between the quotes of a string
unfoldable pub string_of : Token → List ℕ
string_of t = string_in t.kind

-- the text of a keyword or a sign
abbrev pub text_in : TokenKind → List ℕ
text_in (kind.Keyword s) = s
text_in (kind.Sign s) = s
text_in other = []

-- the types of words
abbrev pub word_types : List Kind
word_types = word (codes "u8") ∷ word (codes "u16") ∷ word (codes "u32") ∷ word (codes "u64") ∷ []

-- the size of a word's type
unfoldable pub size_of_token : Token → Size
size_of_token t = if bytes_eq (text_in t.kind) (codes "u8") then S8 else if bytes_eq (text_in t.kind) (codes "u16") then S16 else if bytes_eq (text_in t.kind) (codes "u32") then S32 else S64
