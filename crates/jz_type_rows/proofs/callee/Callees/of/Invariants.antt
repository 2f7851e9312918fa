use Rattle.std.proofs.Common.{take}
use Rattle.jz_type_rows.specs.Tables.{HasCallees}
use Rattle.jz_type_rows.proofs.callee.Callees.of.Given as goal

abbrev pub invariant-loop-fun : goal.invariant-loop-fun
invariant-loop-fun l = HasCallees l.callees (take l.fun-index l.fun-items)
