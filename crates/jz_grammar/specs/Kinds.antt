-- Which tokens the grammar tells apart.
use Rattle.std.specs.Prelude.{ℕ, List, [], ◌∷◌, Bool, true, false, not, bytes_eq}
use Rattle.std.specs.List.{list_all, list_any}
use Rattle.jz_lex.specs.Span.{Span}
use Rattle.jz_lex.specs.declared.token.TokenKind.{TokenKind}
use Rattle.jz_lex.specs.declared.token.TokenKind.TheVariants as kind
use Rattle.jz_lex.specs.declared.token.Token.{Token}

-- a kind of tokens: identifiers, a keyword, numbers, casts, strings, a sign, the end
pub data Kind : Type 0 where
  identifier : Kind
  word : List ℕ → Kind
  number : Kind
  cast : Kind
  string : Kind
  sign : List ℕ → Kind
  end : Kind

-- what a grammar sees of a token
abbrev pub token_kind : TokenKind → Kind
token_kind (kind.Ident s) = identifier
token_kind (kind.Keyword s) = word s
token_kind (kind.Num n) = number
token_kind (kind.Cast size signed) = cast
token_kind (kind.Str s) = string
token_kind (kind.Sign s) = sign s
token_kind kind.End = end

-- they are one kind
abbrev pub same : Kind → Kind → Bool
same identifier identifier = true
same (word s) (word t) = bytes_eq s t
same number number = true
same cast cast = true
same string string = true
same (sign s) (sign t) = bytes_eq s t
same end end = true
same k l = false

-- the kind is in the list
abbrev pub member : Kind → List Kind → Bool
member k ls = list_any (same k) ls

-- no kind is in both
abbrev pub disjoint : List Kind → List Kind → Bool
disjoint ks ls = list_all (λ k. not (member k ls)) ks

-- the token is of one of these kinds
unfoldable pub is_in : List Kind → Token → Bool
is_in ks t = member (token_kind t.kind) ks

-- the list begins with such a token
abbrev pub has : List Kind → List Token → Bool
has ks [] = false
has ks (t ∷ ts) = is_in ks t

-- where the token stands
abbrev pub span_of : Token → Span
span_of t = t.span
