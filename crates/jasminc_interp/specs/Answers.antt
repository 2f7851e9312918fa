-- What the run of a text's function comes to.
use Rattle.std.specs.Prelude.{◌≡◌, ℕ, List, Some, Result, Ok, Err}
use Rattle.jz_tree.specs.declared.program.Fun.{Fun}
use Rattle.jz_tree.specs.declared.program.Program.{Program}
use Rattle.jz_items.specs.declared.item.Item.{Item}
use Rattle.jasminc_interp.specs.declared.refused.Refused.{Refused}
use Rattle.jasminc_interp.specs.declared.telling.Ran.{Ran}
use Rattle.jasminc_source.specs.Texts.{TypesAs}
use Rattle.jasminc_source.specs.Exports.{export_named}
use Rattle.jasminc_interp.specs.Runs.{RunsOn}
use Rattle.jasminc_interp.specs.Causes.{Clear, IsFirstCause}

-- what is told of the run of the export function of that name of the text's program
pub record Gives (text fun : List ℕ) (items : List Item) (fuel : ℕ) (ran : Ran) : Type 0 where
  pub program : Program
  pub types : TypesAs text program
  pub function : Fun
  pub found : export_named fun program.funs ≡ Some function
  pub runs : RunsOn program function items fuel ran

-- one past the last stage
abbrev pub all_stages : ℕ
all_stages = 12

-- a run, where nothing refuses it
pub record IsDone (text fun : List ℕ) (items : List Item) (fuel : ℕ) (ran : Ran) : Type 0 where
  pub clear : Clear text fun items all_stages
  pub gives : Gives text fun items fuel ran

abbrev pub Answers : List ℕ → List ℕ → List Item → ℕ → Result Ran Refused → Type 0
Answers text fun items fuel (Ok ran) = IsDone text fun items fuel ran
Answers text fun items fuel (Err r) = IsFirstCause text fun items r
