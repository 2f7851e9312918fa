use Rattle.std.proofs.Common.{take}
use Rattle.jz_type_storage.specs.InnerTables.{IsNumbers}
use Rattle.jz_type_storage.proofs.numbers.Numbers.of.Given as goal

abbrev pub invariant-loop-i : goal.invariant-loop-i
invariant-loop-i l = IsNumbers l.numbers (take l.i l.funs)
