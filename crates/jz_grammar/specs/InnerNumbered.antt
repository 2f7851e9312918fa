-- What was read of a whole list of tokens, with the number of the first that is left.
use Rattle.std.specs.Prelude.{◌≡◌, ℕ, ◌-◌, length, List, Result, Ok, Err}
use Rattle.jz_lex.specs.Failure.{Failure}
use Rattle.jz_lex.specs.Failure.TheVariants.{Refused, OutOfMemory}
use Rattle.jz_lex.specs.declared.token.Token.{Token}
use Rattle.jz_grammar.specs.Causes.{Cause, cause_of}
use Rattle.jz_grammar.specs.declared.fault.SyntaxKind.{SyntaxKind}

-- what was read of so many tokens: a value, or why there is none and the number of the first token
-- that is left
abbrev pub numbered_answer : {A : Type 0} → ℕ → Result A (Cause × List Token) → Result A (Cause × ℕ)
numbered_answer n (Ok a) = Ok a
numbered_answer n (Err e) = Err (e.0, n - length e.1)

-- a function of the code answers so
abbrev pub IsNumbered : {A : Type 0} → Result A (Cause × ℕ) → Result A (Failure (SyntaxKind × ℕ)) → Type 0
IsNumbered read (Ok a) = read ≡ Ok a
IsNumbered read (Err (Refused at)) = read ≡ Err (cause_of at.0, at.1)
IsNumbered read (Err OutOfMemory) = Unit {0}
