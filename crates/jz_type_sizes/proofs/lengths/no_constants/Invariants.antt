use Rattle.std.proofs.Common.{◌≡◌, drop, map}
use Rattle.jz_type_names.specs.Order.{earlier, first_in}
use Rattle.jz_type_names.specs.Tables.{place_in}
use Rattle.jz_type_names.specs.Names.{is_constant}
use Rattle.jz_type_names.specs.Scopes.{name_of}
use Rattle.jz_type_names.specs.Lent.{these}
use Rattle.jz_type_sizes.specs.Lengths.{no_constant}
use Rattle.jz_type_sizes.proofs.lengths.no_constants.Given as goal

abbrev pub invariant-loop-var : goal.invariant-loop-var
invariant-loop-var l =
    earlier l.first (first_in (no_constant (is_constant (place_in l.constants) (place_in l.variables))) (map name_of (these (drop l.var-index l.vars))))
    ≡ first_in (no_constant (is_constant (place_in l.constants) (place_in l.variables))) (map name_of (these l.fn.vars))
