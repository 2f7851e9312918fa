use Rattle.std.proofs.Common.{◌≡◌, ◌+◌, ◌-◌, length}
use Rattle.x64_assemble.specs.InnerTables.{grown}
use Rattle.x64_assemble.proofs.bytes.grow.Given as goal

abbrev pub invariant-loop-table : goal.invariant-loop-table
invariant-loop-table l = grown l.table.items l.label ≡ grown l.initial.table.items l.label

abbrev pub decreases-loop-table : goal.decreases-loop-table
decreases-loop-table l = l.label + 1 - length l.table.items
