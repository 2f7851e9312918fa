use Rattle.std.proofs.Common.{◌≤◌}
use Rattle.jz_leak.specs.InnerSizes.{tr_size}
use Rattle.jz_leak.specs.declared.transformer.Tr.{size-Tr}
use Rattle.jz_leak.proofs.+drop.Given as goal

abbrev pub invariant-transformer::Tr::drop-loop-tree : goal.invariant-transformer::Tr::drop-loop-tree
invariant-transformer::Tr::drop-loop-tree l = size-Tr l.self ≤ size-Tr l.initial.self

abbrev pub decreases-transformer::Tr::drop-loop-tree : goal.decreases-transformer::Tr::drop-loop-tree
decreases-transformer::Tr::drop-loop-tree l = tr_size l.self
