-- The program that a list of tokens derives, and the first wrong token where it derives none.
use Rattle.std.specs.Prelude.{◌≡◌, ◌-◌, ℕ, List, [], ◌∷◌, ◌++◌, length}
use Rattle.jz_tree.specs.Span.{Span}
use Rattle.jz_grammar.specs.Token.{Token}
use Rattle.jz_grammar.specs.Deriving.{Derives, BeginsWithin, IsRefused}
use Rattle.jz_tree.specs.declared.program.Program.{Program}
use Rattle.jz_grammar.specs.declared.fault.SyntaxKind.{SyntaxKind}
use Rattle.jz_grammar.specs.declared.fault.SyntaxKind.TheVariants.{Unexpected}
use Rattle.jz_grammar.specs.declared.fault.SyntaxFault.{SyntaxFault}
use Rattle.jz_grammar.specs.Causes.{cause_of}
use Rattle.jz_grammar.specs.Places.{span_at}
use Rattle.jz_parse.specs.Grammar.{program}

-- at most so much is nested
abbrev pub most_nested : ℕ
most_nested = 200

-- the grammar derives the program from the tokens, with at most so much nested
abbrev pub DerivesProgram : List Token → Program → Type 0
DerivesProgram ts p = Derives program most_nested ts p

-- what comes after is wrong: a token that is refused, or no more tokens behind a list that only
-- begins a program
abbrev pub IsStoppedAt : ℕ → SyntaxKind → List Token → List Token → Span → Type 0
IsStoppedAt limit kind front [] span =
    (kind ≡ Unexpected) × BeginsWithin program limit front × ((p : Program) → Derives program limit front p → ⊥)
    × (span ≡ span_at front (length front - 1))
IsStoppedAt limit kind front (t ∷ rest) span = IsRefused program limit (cause_of kind) front t × (span ≡ t.span)

abbrev pub IsFaultWithin : ℕ → List Token → SyntaxFault → Type 0
IsFaultWithin limit ts fault =
    (front : List Token) × (rest : List Token) × (ts ≡ front ++ rest) × (length front ≡ fault.token)
    × IsStoppedAt limit fault.kind front rest fault.span

-- The fault is at the first wrong token, and has its number and its span: for Unexpected the tokens
-- before it begin a program and those with it begin none, however much is nested; for TooDeep those
-- with it begin one, and at it more is nested than the limit allows for the first time.
abbrev pub IsSyntaxFault : List Token → SyntaxFault → Type 0
IsSyntaxFault ts fault = IsFaultWithin most_nested ts fault
