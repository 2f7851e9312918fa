use Rattle.std.proofs.Common.{◌≡◌, ◌++◌, drop}
use Rattle.jz_type_names.specs.Order.{earlier, first_in}
use Rattle.jz_preconditions.specs.Stating.{stated_in}
use Rattle.jz_preconditions.specs.Refusals.{shapeless_places}
use Rattle.jz_preconditions.specs.InnerTables.{parameter_in}
use Rattle.jz_preconditions.proofs.judging.read_entries.Given as goal

abbrev pub invariant-loop-note : goal.invariant-loop-note
invariant-loop-note l =
    let ps = parameter_in l.parameters
    in (l.stated ++ stated_in ps (drop l.note-index l.note-items) ≡ stated_in ps l.note-items)
    × (earlier l.first (first_in (shapeless_places ps) (drop l.note-index l.note-items)) ≡ first_in (shapeless_places ps) l.note-items)
