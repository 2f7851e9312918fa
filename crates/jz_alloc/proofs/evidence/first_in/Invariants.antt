use Rattle.std.proofs.Common.{ℕ, IsTrue, take}
use Rattle.jz_bits.specs.Has.{has}
use Rattle.jz_ir.specs.Paths.{among}
use Rattle.jz_alloc.proofs.evidence.first_in.Given as goal

abbrev pub invariant-loop-variable : goal.invariant-loop-variable
invariant-loop-variable l = (w : ℕ) → IsTrue (among (take l.variable-index l.variable-items) w) → IsTrue (has l.row w) → ⊥
