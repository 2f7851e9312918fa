-- A text is blanks, comments and lexemes in turn, each lexeme the longest that stands there; its
-- tokens, and the first place that has none.
use Rattle.std.specs.Prelude.{◌≡◌, ◌⊎◌, ◌≤◌, ℕ, ◌+◌, ◌^◌, List, [], ◌∷◌, ◌++◌, Bool, true, false, not, ◌&&◌, ◌||◌, ◌==◌, nat_lt, if◌then◌else◌, length, codes}
use Rattle.std.specs.Char.{is_ascii_alphabetic}
use Rattle.std.specs.List.{list_all}
use Rattle.jz_lex.specs.LexingWords.{begins, heads, is_lexeme, is_numeral, value_of_numeral, kind_of_word}
use Rattle.jz_io.specs.declared.span.Span.{Span}
use Rattle.jz_lex.specs.declared.token.Token.{Token}
use Rattle.jz_lex.specs.declared.token.TokenKind.TheVariants as kind
use Rattle.jz_lex.specs.declared.token.LexKind.{LexKind}
use Rattle.jz_lex.specs.declared.token.LexKind.TheVariants.{BadByte, BadNumber, OpenComment}
use Rattle.jz_lex.specs.declared.token.LexFault.{LexFault}

-- what may stand between tokens: tab, line feed, carriage return, space
unfoldable pub is_blank : ℕ → Bool
is_blank b = (b == 9) || (b == 10) || (b == 13) || (b == 32)

-- w is the longest lexeme at the front of w ++ more
abbrev pub Longest : List ℕ → List ℕ → Type 0
Longest w more = (is_lexeme w more ≡ true) × ((v rest : List ℕ) → v ++ rest ≡ w ++ more → is_lexeme v rest ≡ true → length v ≤ length w)

-- w is a numeral that is no number where more follows: a letter stands behind it, or its value is
-- too large
abbrev pub is_no_number : List ℕ → List ℕ → Bool
is_no_number w more = is_numeral w && (heads is_ascii_alphabetic more || not (nat_lt (value_of_numeral w) (2 ^ 127)))

-- a byte that does not end a line
abbrev pub in_line : ℕ → Bool
in_line b = not (b == 10)

-- `//` and bytes up to where the line ends
abbrev pub IsLineComment : List ℕ → List ℕ → Type 0
IsLineComment w more = (begins (codes "//") w ≡ true) × (list_all in_line w ≡ true) × (heads in_line more ≡ false)

-- `/*` and bytes up to the first `*/` behind it, which are the last ones
abbrev pub IsBlockComment : List ℕ → Type 0
IsBlockComment w = (within : List ℕ) × (w ≡ codes "/*" ++ (within ++ codes "*/")) × ((u v : List ℕ) → within ++ codes "*/" ≡ u ++ (codes "*/" ++ v) → v ≡ [])

-- what stands between tokens: a blank byte, or a comment
abbrev pub IsSkipped : List ℕ → List ℕ → Type 0
IsSkipped w more = ((b : ℕ) × (w ≡ b ∷ []) × (is_blank b ≡ true)) ⊎ (IsLineComment w more ⊎ IsBlockComment w)

-- a comment begins
abbrev pub begins_comment : List ℕ → Bool
begins_comment text = begins (codes "//") text || begins (codes "/*") text

-- a part of a text: bytes that are skipped, or those of a lexeme
pub data Part : Type 0 where
  Skipped : List ℕ → Part
  Lexeme : List ℕ → Part

-- the place of a text's first byte
abbrev pub first_place : Span
first_place = record { line = 1; col = 1 }

-- the place behind these bytes: a line ends at the byte 10
abbrev pub after : Span → List ℕ → Span
after s [] = s
after s (b ∷ bs) = if b == 10 then after (record { line = s.line + 1; col = 1 }) bs else after (record { line = s.line; col = s.col + 1 }) bs

-- the text that begins at s, up to rest at e: its parts in turn, and the tokens of its lexemes
abbrev pub UpTo : Span → List ℕ → List Part → List Token → Span → List ℕ → Type 0
UpTo s text [] tokens e rest = (text ≡ rest) × (s ≡ e) × (tokens ≡ [])
UpTo s text (Skipped w ∷ parts) tokens e rest = (more : List ℕ) × (text ≡ w ++ more) × IsSkipped w more × UpTo (after s w) more parts tokens e rest
UpTo s text (Lexeme w ∷ parts) tokens e rest = (more : List ℕ) × (others : List Token) × (text ≡ w ++ more) × (begins_comment text ≡ false) × Longest w more × (is_no_number w more ≡ false) × (tokens ≡ record { kind = kind_of_word w; span = s } ∷ others) × UpTo (after s w) more parts others e rest

-- the tokens of the whole text, its end last
abbrev pub IsLexed : List ℕ → List Token → Type 0
IsLexed text tokens = (parts : List Part) × (before : List Token) × (e : Span) × UpTo first_place text parts before e [] × (tokens ≡ before ++ record { kind = kind.End; span = e } ∷ [])

-- at the front of rest stands no token, for this cause: a byte begins none, a numeral is no number,
-- or a comment does not end
abbrev pub HasNone : LexKind → List ℕ → Type 0
HasNone BadByte rest = (b : ℕ) × (bs : List ℕ) × (rest ≡ b ∷ bs) × (is_blank b ≡ false) × (begins_comment rest ≡ false) × ((v more : List ℕ) → v ++ more ≡ rest → is_lexeme v more ≡ true → ⊥)
HasNone BadNumber rest = (w : List ℕ) × (more : List ℕ) × (rest ≡ w ++ more) × Longest w more × (is_no_number w more ≡ true)
HasNone OpenComment rest = (more : List ℕ) × (rest ≡ codes "/*" ++ more) × ((u v : List ℕ) → more ≡ u ++ (codes "*/" ++ v) → ⊥)

-- up to this place the text is blanks, comments and lexemes in turn, and there stands no token
abbrev pub HasNoToken : List ℕ → LexFault → Type 0
HasNoToken text f = (parts : List Part) × (before : List Token) × (rest : List ℕ) × UpTo first_place text parts before f.span rest × HasNone f.kind rest
