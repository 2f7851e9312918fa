use Rattle.std.proofs.Common.{List, take, ◌++◌}
use Rattle.jz_type_names.specs.Scopes.{Name}
use Rattle.jz_type_names.specs.InnerLists.{these_names}
use Rattle.jz_type_names.specs.Tables.{IsEarliestPlaces}
use Rattle.jz_type_names.proofs.repeats.add_places.Given as goal

abbrev pub invariant-loop-name : goal.invariant-loop-name
invariant-loop-name l = (ns : List Name) → IsEarliestPlaces l.initial.places ns → IsEarliestPlaces l.places (ns ++ these_names (take l.name-index l.names))
