-- The program of a text in the whole language.
use Rattle.std.specs.Prelude.{◌≡◌, ℕ, List}
use Rattle.jz_tree.specs.declared.program.Program.{Program}
use Rattle.jz_parse.specs.Reading.{Reads}
use Rattle.jz_resolve.specs.Programs.{resolved_program}
use Rattle.jz_types.specs.Rules.{IsTyped, IsFirstTypeFault}
use Rattle.jz_types.specs.declared.fault.TypeFault.{TypeFault}

-- the longest text that is read
abbrev pub source_limit : ℕ
source_limit = 1048576

-- The text reads as a program in which no rule of typing fails; this is that program, each variable
-- that is used with its declaration.
pub record TypesAs (text : List ℕ) (program : Program) : Type 0 where
  pub written : Program
  pub reads : Reads text written
  pub typed : IsTyped written
  pub is : program ≡ resolved_program written

-- the text reads as a program that has this fault of typing first
pub record FailsTyping (text : List ℕ) (fault : TypeFault) : Type 0 where
  pub program : Program
  pub reads : Reads text program
  pub first : IsFirstTypeFault program fault
