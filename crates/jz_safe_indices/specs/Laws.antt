-- What a function without an alarm says of its indices.
use Rattle.std.specs.Prelude.{List, None}
use Rattle.jz_tree.specs.declared.expr.Var.{Var}
use Rattle.jz_meaning.specs.Statements.{Block}
use Rattle.jz_facts.specs.Facts.{Given}
use Rattle.jz_alarms.specs.Alarms.{IsFirstAlarm}
use Rattle.jz_homes.specs.Homes.{Homes}
use Rattle.jz_lowering_cases.specs.Staying.{HasCellsInside}

-- each index that is a number is one of a cell of its array
abbrev pub IndicesAreInside : Type 0
IndicesAreInside =
    (g : Given) (body : Block) (results : List Var) (home : Homes)
    → IsFirstAlarm g body results None → HasCellsInside home body
