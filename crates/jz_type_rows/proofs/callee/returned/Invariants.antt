use Rattle.std.proofs.Common.{◌≡◌, ℕ, List, ◌++◌, map, drop}
use Rattle.jz_type_rows.specs.Callees.{place_among}
use Rattle.jz_type_rows.specs.InnerTables.{HasPlaces}
use Rattle.jz_type_rows.proofs.callee.returned.Given as goal

abbrev pub invariant-loop-var : goal.invariant-loop-var
invariant-loop-var l =
    (ns : List (List ℕ)) → HasPlaces l.places ns
    → l.list ++ map (place_among ns) (drop l.var-index l.var-items) ≡ map (place_among ns) l.fn.vars
