use Rattle.std.proofs.Common.{ℕ, ◌<◌}
use Rattle.jz_alloc.specs.InnerHolding.{VarAt}
use Rattle.jz_alloc.proofs.evidence.first_conflicting.Given as goal

abbrev pub invariant-loop-other : goal.invariant-loop-other
invariant-loop-other l = (w : ℕ) → w < l.other → VarAt l.op l.after l.held l.variable w → ⊥
