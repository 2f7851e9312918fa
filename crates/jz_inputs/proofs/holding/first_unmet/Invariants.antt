use Rattle.std.proofs.Common.{take}
use Rattle.std.specs.Prelude.{All}
use Rattle.jz_inputs.specs.Held.{IsHeld}
use Rattle.jz_inputs.proofs.holding.first_unmet.Given as goal

abbrev pub invariant-loop-place : goal.invariant-loop-place
invariant-loop-place l = All (IsHeld l.fn.fun l.fn.words l.fn.items) (take l.place l.fn.pres)
