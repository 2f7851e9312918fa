-- Where a token stands, by its number.
use Rattle.std.specs.Prelude.{ℕ, List, slice_get, Option, Some, None, ◌≡◌, ◌-◌, nat_lt, length, if◌then◌else◌}
use Rattle.jz_lex.specs.Span.{Span}
use Rattle.jz_lex.specs.declared.token.Token.{Token}
use Rattle.jz_grammar.specs.declared.fault.SyntaxKind.{SyntaxKind}
use Rattle.jz_grammar.specs.declared.fault.SyntaxFault.{SyntaxFault}

-- the span of a token if there is one, else the text's first place
abbrev pub span_or_start : Option Token → Span
span_or_start (Some t) = t.span
span_or_start None = record { line = 1; col = 1 }

-- the span of the token of that number
abbrev pub span_at : List Token → ℕ → Span
span_at ts n = span_or_start (slice_get ts n)

-- the fault has this cause and that number, and the span of that token, or of the last where there
-- is no such token
abbrev pub IsFaultAt : SyntaxKind → List Token → ℕ → SyntaxFault → Type 0
IsFaultAt k ts n fault =
    (fault.kind ≡ k) × (fault.token ≡ n)
    × (fault.span ≡ span_at ts (if nat_lt n (length ts) then n else length ts - 1))
