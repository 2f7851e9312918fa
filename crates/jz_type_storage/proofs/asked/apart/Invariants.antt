use Rattle.std.proofs.Common.{◌≡◌, ◌++◌, not, drop, filter}
use Rattle.jz_type_storage.specs.InnerWalks.{members}
use Rattle.jz_type_storage.proofs.asked.apart.Given as goal

abbrev pub invariant-loop-name : goal.invariant-loop-name
invariant-loop-name l = l.kept.items ++ filter (λ n. not (members l.set.keys n)) (drop l.name-index l.names) ≡ filter (λ n. not (members l.set.keys n)) l.names
