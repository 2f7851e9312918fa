use Rattle.std.proofs.Common.{take}
use Rattle.jz_type_names.specs.Tables.{IsFunctions}
use Rattle.jz_type_names.proofs.tables.Functions.of.Given as goal

abbrev pub invariant-loop-fun : goal.invariant-loop-fun
invariant-loop-fun l = IsFunctions l.functions (take l.fun-index l.fun-items)
