use Rattle.std.proofs.Common.{◌≡◌, drop}
use Rattle.std.specs.List.{list_all}
use Rattle.jz_preconditions.specs.Refusals.{has_value}
use Rattle.jz_preconditions.specs.InnerTables.{seen_in}
use Rattle.jz_preconditions.proofs.table.Table.are_valued.Given as goal

abbrev pub invariant-loop-one : goal.invariant-loop-one
invariant-loop-one l =
    list_all (λ s. has_value (seen_in l.self) s.pre) (drop l.one-index l.one-items)
    ≡ list_all (λ s. has_value (seen_in l.self) s.pre) l.one-items
