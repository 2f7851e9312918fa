-- What compiling the functions of a text comes to.
use Rattle.std.specs.Prelude.{◌≡◌, ℕ, List, Result, Ok, Err}
use Rattle.jz_tree.specs.declared.program.Program.{Program}
use Rattle.jz_listing.specs.Listing.{listing_text}
use Rattle.jasminc_source.specs.Texts.{TypesAs}
use Rattle.jasminc_compile.specs.declared.refused.Refused.{Refused}
use Rattle.jasminc_compile.specs.declared.stages.Compilation.{Compilation}
use Rattle.jasminc_compile.specs.Making.{AreMade}
use Rattle.jasminc_compile.specs.Causes.{Clear, IsFirstCause}

-- what is made of the export functions of the text's program, and the listing of that
pub record Gives (text : List ℕ) (made : Compilation) : Type 0 where
  pub program : Program
  pub types : TypesAs text program
  pub are_made : AreMade program made.functions
  pub listed : made.listing ≡ listing_text made.functions

-- one past the last stage
abbrev pub all_stages : ℕ
all_stages = 10

-- the functions, where nothing refuses them
pub record IsDone (text : List ℕ) (made : Compilation) : Type 0 where
  pub clear : Clear text all_stages
  pub gives : Gives text made

abbrev pub Answers : List ℕ → Result Compilation Refused → Type 0
Answers text (Ok made) = IsDone text made
Answers text (Err r) = IsFirstCause text r
