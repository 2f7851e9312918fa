use Rattle.jz_type_storage.proofs.Each.{Each}
use Rattle.jz_type_storage.proofs.recursion.ask_each.Given as goal

abbrev pub invariant-loop-i : goal.invariant-loop-i
invariant-loop-i l = Each l.graph l.fun-items l.i l.first l.ranks.items
