use Rattle.std.proofs.Common.{◌≡◌, drop}
use Rattle.jz_type_names.specs.Order.{earlier, first_in}
use Rattle.jz_type_names.specs.InnerLists.{these_names}
use Rattle.jz_type_names.specs.InnerTables.{one_repeated_in}
use Rattle.jz_type_names.proofs.repeats.repeated_among.Given as goal

abbrev pub invariant-loop-name : goal.invariant-loop-name
invariant-loop-name l =
    earlier l.first (first_in (one_repeated_in l.places) (these_names (drop l.name-index l.names)))
    ≡ first_in (one_repeated_in l.places) (these_names l.names)
