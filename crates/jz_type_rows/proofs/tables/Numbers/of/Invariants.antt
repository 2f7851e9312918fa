use Rattle.std.proofs.Common.{take}
use Rattle.jz_type_rows.specs.InnerTables.{HasNumbers}
use Rattle.jz_type_rows.proofs.tables.Numbers.of.Given as goal

abbrev pub invariant-loop-number : goal.invariant-loop-number
invariant-loop-number l = HasNumbers l.numbers (take l.number-index l.list)
