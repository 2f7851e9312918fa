-- What is made of a text for a call of one of its export functions.
use Rattle.std.specs.Prelude.{◌≡◌, ℕ, List, find, Option, Some, Result, Ok, Err, slice_get}
use Rattle.std.specs.Str.{bytes_eq}
use Rattle.jz_tree.specs.declared.program.Fun.{Fun}
use Rattle.jz_tree.specs.declared.program.Program.{Program}
use Rattle.jz_items.specs.declared.item.Item.{Item}
use Rattle.jz_listing.specs.declared.compiled.Compiled.{Compiled}
use Rattle.jasminc_source.specs.Texts.{TypesAs}
use Rattle.jasminc_source.specs.Exports.{export_named}
use Rattle.jasminc_compile.specs.Ready.{IsReadyAt}
use Rattle.jasminc_compile.specs.Making.{IsMade, AreMade}
use Rattle.jasminc_called.specs.declared.making.MadeFor.{MadeFor}
use Rattle.jasminc_called.specs.declared.refused.Refused.{Refused}
use Rattle.jasminc_called.specs.Causes.{Clear, IsFirstCause}

-- the first of what was made with this name
abbrev pub compiled_named : List ℕ → List Compiled → Option Compiled
compiled_named name made = find (λ c. bytes_eq c.name name) made

-- the export function of that name is made into this one, which is the first of the name
pub record IsCompiledAs (p : Program) (fun : List ℕ) (made : List Compiled) (c : Compiled) : Type 0
  where
    pub function : Fun
    pub found : export_named fun p.funs ≡ Some function
    pub compiled_is : compiled_named fun made ≡ Some c
    pub is_made : IsMade p function c

-- It is the typed program of the text, the export function of that name stands at the place, within
-- the limits, and all export functions are made; no stage before the items refuses a call.
pub record IsMadeFor (text fun : List ℕ) (m : MadeFor) : Type 0 where
  pub types : TypesAs text m.typed.program
  pub function : Fun
  pub there : slice_get m.typed.program.funs m.place ≡ Some function
  pub found : export_named fun m.typed.program.funs ≡ Some function
  pub ready : IsReadyAt m.typed.program m.place
  pub are_made : AreMade m.typed.program m.functions
  pub clear : (items : List Item) → Clear text fun items 10

-- what is made; or the first cause, whatever the items are
abbrev pub MakingAnswers : List ℕ → List ℕ → Result MadeFor Refused → Type 0
MakingAnswers text fun (Ok m) = IsMadeFor text fun m
MakingAnswers text fun (Err r) = (items : List Item) → IsFirstCause text fun items r
