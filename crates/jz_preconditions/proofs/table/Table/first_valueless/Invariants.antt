use Rattle.std.proofs.Common.{◌≡◌, drop}
use Rattle.jz_type_names.specs.Order.{earlier, first_in}
use Rattle.jz_preconditions.specs.Refusals.{valueless_places}
use Rattle.jz_preconditions.specs.InnerTables.{seen_in}
use Rattle.jz_preconditions.proofs.table.Table.first_valueless.Given as goal

abbrev pub invariant-loop-one : goal.invariant-loop-one
invariant-loop-one l =
    earlier l.first (first_in (valueless_places (seen_in l.self)) (drop l.one-index l.one-items))
    ≡ first_in (valueless_places (seen_in l.self)) l.one-items
