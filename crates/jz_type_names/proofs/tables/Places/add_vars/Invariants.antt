use Rattle.std.proofs.Common.{List, map, take, ◌++◌}
use Rattle.jz_type_names.specs.Scopes.{Name, name_of}
use Rattle.jz_type_names.specs.Tables.{IsPlaces}
use Rattle.jz_type_names.proofs.tables.Places.add_vars.Given as goal

abbrev pub invariant-loop-var : goal.invariant-loop-var
invariant-loop-var l = (ns : List Name) → IsPlaces l.initial.self ns → IsPlaces l.self (ns ++ map name_of (take l.var-index l.var-items))
