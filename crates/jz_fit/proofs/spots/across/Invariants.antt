use Rattle.std.proofs.Common.{◌≡◌, ℕ, ◌&&◌, not, take}
use Rattle.jz_ir.specs.Paths.{among}
use Rattle.jz_fit.proofs.spots.across.Given as goal

abbrev pub invariant-loop-variable : goal.invariant-loop-variable
invariant-loop-variable l = (v : ℕ) → among l.live v ≡ (not (among l.writes v) && among (take l.variable-index l.variable-items) v)
