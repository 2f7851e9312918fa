-- What is made of a typed text, by the stages of compiling.
use Rattle.std.specs.Prelude.{ℕ, List, All}
use Rattle.jz_tree.specs.declared.program.Program.{Program}
use Rattle.jz_listing.specs.declared.compiled.Compiled.{Compiled}
use Rattle.jasminc_source.specs.Texts.{TypesAs}
use Rattle.jasminc_source.specs.Exports.{WithinIfExported}
use Rattle.jasminc_compile.specs.declared.refused.Refused.{Refused}
use Rattle.jasminc_compile.specs.Making.{AreMade}
use Rattle.jasminc_compile.specs.Causes.{Clear, IsFirstCause}
use Rattle.jasminc_compile.specs.Answers.{all_stages}

-- all export functions, which are within the limits, and no cause in any text of the program
pub record AreMadeOf (p : Program) (made : List Compiled) : Type 0 where
  pub within : All (WithinIfExported p) p.funs
  pub are_made : AreMade p made
  pub clear : (text : List ℕ) → TypesAs text p → Clear text all_stages

-- the first cause in each text of the program
abbrev pub RefusesMaking : Program → Refused → Type 0
RefusesMaking p r = (text : List ℕ) → TypesAs text p → IsFirstCause text r
