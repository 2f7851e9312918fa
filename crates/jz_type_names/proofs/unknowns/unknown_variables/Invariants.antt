use Rattle.std.proofs.Common.{◌≡◌, drop, map}
use Rattle.jz_type_names.specs.Order.{earlier, first_in}
use Rattle.jz_type_names.specs.Scopes.{name_of}
use Rattle.jz_type_names.specs.Lent.{these}
use Rattle.jz_type_names.specs.Tables.{place_in}
use Rattle.jz_type_names.specs.Names.{one_unknown}
use Rattle.jz_type_names.proofs.unknowns.unknown_variables.Given as goal

abbrev pub invariant-loop-var : goal.invariant-loop-var
invariant-loop-var l =
    earlier l.first (first_in (one_unknown (place_in l.variables)) (map name_of (these (drop l.var-index l.vars))))
    ≡ first_in (one_unknown (place_in l.variables)) (map name_of (these l.vars))
