use Rattle.std.proofs.Common.{map, take}
use Rattle.jz_type_names.specs.Scopes.{text_of_param}
use Rattle.jz_type_rows.specs.InnerTables.{HasPlaces}
use Rattle.jz_type_rows.proofs.callee.places_of.Given as goal

abbrev pub invariant-loop-number : goal.invariant-loop-number
invariant-loop-number l = HasPlaces l.places (map text_of_param (take l.number l.fn.params))
