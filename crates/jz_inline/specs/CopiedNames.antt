-- The names in a copy, as the code keeps them.
use Rattle.std.specs.Prelude.{ℕ, List, Option, Some, None}
use Rattle.jz_type_names.specs.Tables.{item_in}
use Rattle.jz_inline.specs.declared.names.NamesInCopy.{NamesInCopy}
use Rattle.jz_inline.specs.declared.names.Renamed.{Renamed}
use Rattle.jz_inline.specs.Names.{Names}

abbrev pub renamed_or : Option Renamed → List ℕ × ℕ → List ℕ × ℕ
renamed_or None other = other
renamed_or (Some r) other = (r.name, r.copy)

-- an array that was passed is elsewhere; any other variable has the number of the copy
abbrev pub names_of : NamesInCopy → Names
names_of t n = renamed_or (item_in t.arrays n) (n, t.copy)
