use Rattle.std.proofs.Common.{map, take}
use Rattle.jz_type_names.specs.Tables.{IsPlaces}
use Rattle.jz_type_names.proofs.tables.Places.of_constants.Given as goal

abbrev pub invariant-loop-constant : goal.invariant-loop-constant
invariant-loop-constant l = IsPlaces l.places (map (λ c. (c.name, c.span)) (take l.constant-index l.constant-items))
