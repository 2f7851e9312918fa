use Rattle.std.proofs.Common.{ℕ, ◌<◌}
use Rattle.jz_alloc.specs.Fit.{IsOpen}
use Rattle.jz_alloc.proofs.fit.first_open.Given as goal

abbrev pub invariant-loop-place : goal.invariant-loop-place
invariant-loop-place l = (p : ℕ) → p < l.place → IsOpen l.meets l.busy l.holders l.row l.variable p → ⊥
