use Rattle.std.proofs.Common.{map, take}
use Rattle.jz_type_names.specs.Scopes.{name_of}
use Rattle.jz_type_names.specs.Tables.{IsPlaces}
use Rattle.jz_type_names.proofs.tables.Places.of_variables.Given as goal

abbrev pub invariant-loop-param : goal.invariant-loop-param
invariant-loop-param l = IsPlaces l.places (map name_of (map (λ p. p.var) (take l.param-index l.param-items)))
