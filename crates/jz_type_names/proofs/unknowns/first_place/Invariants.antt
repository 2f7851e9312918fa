use Rattle.std.proofs.Common.{◌≡◌, drop, map}
use Rattle.jz_type_names.specs.Order.{earlier, earliest}
use Rattle.jz_type_names.specs.Scopes.{name_of, places_of}
use Rattle.jz_type_names.specs.Lent.{these}
use Rattle.jz_type_names.proofs.unknowns.first_place.Given as goal

abbrev pub invariant-loop-var : goal.invariant-loop-var
invariant-loop-var l =
    earlier l.first (earliest (places_of (map name_of (these (drop l.var-index l.vars)))))
    ≡ earliest (places_of (map name_of (these l.vars)))
