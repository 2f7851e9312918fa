-- What asking for the constant time of a text's functions comes to.
use Rattle.std.specs.Prelude.{ℕ, List, Result, Ok, Err}
use Rattle.jz_tree.specs.declared.program.Program.{Program}
use Rattle.jasminc_source.specs.Texts.{TypesAs}
use Rattle.jasminc_ct.specs.declared.refused.Refused.{Refused}
use Rattle.jasminc_ct.specs.Judging.{AreConstant}
use Rattle.jasminc_ct.specs.Causes.{Clear, IsFirstCause}

-- a line for each export function of the text's program, each of which is constant time
pub record Gives (text output : List ℕ) : Type 0 where
  pub program : Program
  pub types : TypesAs text program
  pub constant : AreConstant program program.funs output

-- one past the last stage
abbrev pub all_stages : ℕ
all_stages = 8

-- the lines, where nothing refuses them
pub record IsDone (text output : List ℕ) : Type 0 where
  pub clear : Clear text all_stages
  pub gives : Gives text output

abbrev pub Answers : List ℕ → Result (List ℕ) Refused → Type 0
Answers text (Ok output) = IsDone text output
Answers text (Err r) = IsFirstCause text r
