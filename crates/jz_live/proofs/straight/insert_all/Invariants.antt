use Rattle.std.proofs.Common.{◌≡◌, ℕ, length, ◌||◌, take}
use Rattle.jz_bits.specs.Has.{has}
use Rattle.jz_ir.specs.Paths.{among}
use Rattle.jz_live.proofs.straight.insert_all.Given as goal

abbrev pub invariant-loop-variable : goal.invariant-loop-variable
invariant-loop-variable l = (length l.live ≡ length l.fn.live) × ((w : ℕ) → has l.live w ≡ (among (take l.variable-index l.variable-items) w || has l.fn.live w))
