-- Why a list of tokens is none of a grammar's.
use Rattle.jz_grammar.specs.declared.fault.SyntaxKind.{SyntaxKind}
use Rattle.jz_grammar.specs.declared.fault.SyntaxKind.TheVariants as kind

-- no phrase goes on with the token, or the token opens what is nested too deep
pub data Cause : Type 0 where
  Unexpected : Cause
  TooDeep : Cause

-- the cause that the code tells
abbrev pub cause_of : SyntaxKind → Cause
cause_of kind.Unexpected = Unexpected
cause_of kind.TooDeep = TooDeep
