-- What calls of a text's function come to.
use Rattle.std.specs.Prelude.{ℕ, List, Result, Ok, Err}
use Rattle.jz_tree.specs.declared.program.Fun.{Fun}
use Rattle.jz_tree.specs.declared.program.Program.{Program}
use Rattle.jz_items.specs.declared.item.Item.{Item}
use Rattle.jz_listing.specs.declared.compiled.Compiled.{Compiled}
use Rattle.jasminc_source.specs.Texts.{TypesAs}
use Rattle.jasminc_compile.specs.Making.{AreMade}
use Rattle.jasminc_runs.specs.declared.telling.Ran.{Ran}
use Rattle.jasminc_runs.specs.Calling.{RunsOn}
use Rattle.jasminc_leaks.specs.Leaking.{LeaksOn}
use Rattle.jasminc_called.specs.declared.calling.Told.{Told}
use Rattle.jasminc_called.specs.declared.refused.Refused.{Refused}
use Rattle.jasminc_called.specs.Making.{IsCompiledAs}
use Rattle.jasminc_called.specs.Causes.{Clear, IsFirstCause}

-- ---- what is told of a function of a program and of what it is compiled to
-- its run on the machine
abbrev pub Executes : List Item → ℕ → Program → Fun → Compiled → Ran → Type 0
Executes items fuel p f c ran = RunsOn f c items fuel ran

-- its transformer, applied to what its source leaks
abbrev pub Leaks : List Item → ℕ → Program → Fun → Compiled → Ran → Type 0
Leaks items fuel p f c ran = LeaksOn p f c items fuel ran

-- ---- the text of a call
-- All export functions of the text's program are made, and this is told of the one of that name.
pub record Gives (Tells : Program → Fun → Compiled → Ran → Type 0) (text fun : List ℕ) (told : Told)
    : Type 0 where
  pub program : Program
  pub types : TypesAs text program
  pub are_made : AreMade program told.functions
  pub compiled : Compiled
  pub is_compiled : IsCompiledAs program fun told.functions compiled
  pub tells : Tells program is_compiled.function compiled told.ran

-- one past the last stage
abbrev pub all_stages : ℕ
all_stages = 12

-- what is told, where nothing refuses the call
pub record IsDone (Tells : Program → Fun → Compiled → Ran → Type 0) (text fun : List ℕ)
    (items : List Item) (told : Told) : Type 0 where
  pub clear : Clear text fun items all_stages
  pub gives : Gives Tells text fun told

abbrev pub Answers :
    (Program → Fun → Compiled → Ran → Type 0) → List ℕ → List ℕ → List Item
    → Result Told Refused → Type 0
Answers Tells text fun items (Ok told) = IsDone Tells text fun items told
Answers Tells text fun items (Err r) = IsFirstCause text fun items r
