use Rattle.std.proofs.Common.{◌≡◌, [], take, drop}
use Rattle.jz_type_names.specs.Order.{earlier, earliest}
use Rattle.jz_preconditions.specs.Naming.{ParametersByName}
use Rattle.jz_preconditions.specs.Refusals.{repeated_after}
use Rattle.jz_preconditions.specs.InnerTables.{IsTable}
use Rattle.jz_preconditions.proofs.table.Table.add_all.Given as goal

abbrev pub invariant-loop-one : goal.invariant-loop-one
invariant-loop-one l =
    ((ps : ParametersByName) → IsTable l.initial.self ps [] → IsTable l.self ps (take l.one-index l.one-items))
    × ((ps : ParametersByName) → IsTable l.initial.self ps []
    → earlier l.first (earliest (repeated_after ps (take l.one-index l.one-items) (drop l.one-index l.one-items)))
    ≡ earliest (repeated_after ps [] l.one-items))
