use Rattle.std.proofs.Common.{length}
use Rattle.jz_unrolling_values.proofs.NumberLemmas.{IsTaking}
use Rattle.jz_unrolling_values.proofs.known.Known.leave.Given as goal

abbrev pub invariant-loop-entry : goal.invariant-loop-entry
invariant-loop-entry l = IsTaking l.initial.self l.self

abbrev pub decreases-loop-entry : goal.decreases-loop-entry
decreases-loop-entry l = length l.self.changed.items
