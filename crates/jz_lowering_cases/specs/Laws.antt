-- What holds of the cases of functions over variables.
use Rattle.std.specs.Prelude.{ℕ, List}
use Rattle.jz_meaning.specs.Statements.{Block}
use Rattle.jz_change.specs.Changes.{Change}
use Rattle.jz_change.specs.Composing.{compose_of}
use Rattle.jz_change.specs.Flattening.{flat}
use Rattle.jz_placing.specs.Variables.{Body}
use Rattle.jz_homes.specs.Homes.{Homes}
use Rattle.jz_every_row.specs.Bodies.{IsLowered}
use Rattle.jz_events.specs.Cases.{cases_over}
use Rattle.jz_compiled.specs.Layout.{Name, Place}
use Rattle.jz_compiled.specs.Showing.{OutsStayIn}
use Rattle.jz_case_names.specs.Items.{Items, items_of, IsBetween}
use Rattle.jz_case_names.specs.Listed.{AreLeft}
use Rattle.jz_item_names.specs.Names.{plain, NamesOf}
use Rattle.jz_lowering_cases.specs.Staying.{ArePlaced, HasCellsInside, IsSmall}

-- what lowering makes of a function without calls shows of the frame the places of stack variables
-- that its statement names; so do the cases of a change before it that names the same
abbrev pub LoweredCasesStay : Type 0
LoweredCasesStay =
    (home : Homes) (places : List Place) (slots : ℕ → ℕ) (size : ℕ) (b : Block) (u : Body)
    (first second : Change) (X : Items (List Name))
    → ArePlaced home places slots → IsSmall places size → HasCellsInside home b
    → IsLowered home b u second → IsBetween NamesOf X (items_of plain b) first
    → AreLeft (OutsStayIn places size) X
    (flat (compose_of first second) (cases_over slots size u)).cases
