use Rattle.std.proofs.Common.{◌≡◌}
use Rattle.jz_homing.specs.Tables.{table_in, with_each}
use Rattle.jz_homing.proofs.homing.add_each.Given as goal

abbrev pub invariant-loop-cell : goal.invariant-loop-cell
invariant-loop-cell l = table_in l.table ≡ with_each (table_in l.initial.table) l.var l.size l.cell
