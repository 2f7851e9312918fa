use Rattle.std.proofs.Common.{◌≡◌, ℕ, take}
use Rattle.jz_ir.specs.Paths.{among}
use Rattle.jz_live.specs.Lives.{transfer}
use Rattle.jz_live_lists.proofs.lists.before_op.Given as goal

abbrev pub invariant-loop-variable : goal.invariant-loop-variable
invariant-loop-variable l = (w : ℕ) → among l.before w ≡ transfer (among (take l.variable-index l.variable-items) w) (among l.op.writes w) (among l.live w)
