use Rattle.std.proofs.Common.{ℕ, ◌<◌, IsTrue}
use Rattle.jz_bits.specs.Has.{has}
use Rattle.jz_alloc.proofs.evidence.first_common.Given as goal

abbrev pub invariant-loop-variable : goal.invariant-loop-variable
invariant-loop-variable l = (w : ℕ) → w < l.variable → IsTrue (has l.first w) → IsTrue (has l.second w) → ⊥
