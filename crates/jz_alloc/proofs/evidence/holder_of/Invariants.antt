use Rattle.std.proofs.Common.{ℕ, ◌<◌}
use Rattle.jz_ir.specs.Places.{HeldByVar, TakenAt}
use Rattle.jz_alloc.specs.InnerHolding.{LiveIn}
use Rattle.jz_alloc.proofs.evidence.holder_of.Given as goal

abbrev pub invariant-loop-i : goal.invariant-loop-i
invariant-loop-i l = ((j : ℕ) → j < l.i → (u : ℕ) → HeldByVar l.ops (LiveIn l.after) l.places l.variable l.place j u → ⊥) × ((j : ℕ) → j < l.i → TakenAt l.ops (LiveIn l.after) j l.variable l.place → ⊥)
