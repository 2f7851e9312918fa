use Rattle.std.proofs.Common.{◌≡◌, map, take}
use Rattle.jz_type_storage.specs.InnerNumbers.{numbers_called}
use Rattle.jz_type_storage.proofs.graph.graph.Given as goal

abbrev pub invariant-loop-fun : goal.invariant-loop-fun
invariant-loop-fun l = l.graph.items ≡ map (numbers_called l.funs) (take l.fun-index l.fun-items)
