-- What the code answers, beside what a reader reads.
use Rattle.std.specs.Prelude.{◌≡◌, List, Result, Ok, Err}
use Rattle.jz_lex.specs.Failure.{Failure}
use Rattle.jz_lex.specs.Failure.TheVariants.{Refused, OutOfMemory}
use Rattle.jz_lex.specs.declared.token.Token.{Token}
use Rattle.jz_grammar.specs.Causes.{cause_of}
use Rattle.jz_grammar.specs.Readers.{Answer}
use Rattle.jz_grammar.specs.declared.fault.SyntaxKind.{SyntaxKind}

-- a function of the code read what a reader reads; now is what it left
abbrev pub Gave : {A : Type 0} → Result A (Failure SyntaxKind) → List Token → Answer A → Type 0
Gave (Ok a) now read = read ≡ Ok (a, now)
Gave (Err (Refused k)) now read = read ≡ Err (cause_of k, now)
Gave (Err OutOfMemory) now read = Unit {0}
