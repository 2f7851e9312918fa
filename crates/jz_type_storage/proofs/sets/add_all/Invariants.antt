use Rattle.std.proofs.Common.{List, ℕ, drop}
use Rattle.jz_type_storage.specs.InnerWalks.{AddsAll}
use Rattle.jz_type_storage.proofs.sets.add_all.Given as goal

abbrev pub invariant-loop-name : goal.invariant-loop-name
invariant-loop-name l = (new : List (List ℕ)) → AddsAll l.set.keys (drop l.name-index l.names) new → AddsAll l.initial.set.keys l.names new
