-- How many parts a body over variables has, by those of the source's body.
use Rattle.std.specs.Prelude.{◌≤◌, ◌*◌}
use Rattle.jz_meaning.specs.Lengths.{statements_in}
use Rattle.jz_meaning.specs.Statements.{Block}
use Rattle.jz_placing.specs.Variables.{Body}
use Rattle.jz_change.specs.Changes.{Change}
use Rattle.jz_codable.specs.Ready.{parts_of}
use Rattle.jz_homes.specs.Homes.{Homes}
use Rattle.jz_every_row.specs.Bodies.{IsLowered}

abbrev pub BodiesAreThreeTimesAsLong : Type 0
BodiesAreThreeTimesAsLong =
    (home : Homes) (b : Block) (u : Body) (k : Change)
    → IsLowered home b u k → parts_of u ≤ 3 * statements_in b
