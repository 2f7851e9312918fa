-- The identifiers of a text.
use Rattle.std.specs.Prelude.{◌≡◌, ℕ, List, true, false}
use Rattle.jz_lex.specs.LexingWords.{keywords, is_among, is_word}
use Rattle.jz_lex.specs.declared.token.Token.{Token}
use Rattle.jz_lex.specs.declared.token.TokenKind.TheVariants.{Ident}

-- a word that is no keyword
abbrev pub IsIdentifier : List ℕ → Type 0
IsIdentifier w = (is_word w ≡ true) × (is_among keywords w ≡ false)

-- a token that is an identifier has the bytes of one
abbrev pub IsSpelled : Token → Type 0
IsSpelled t = (s : List ℕ) → t.kind ≡ Ident s → IsIdentifier s
