use Rattle.std.proofs.Common.{◌≡◌}
use Rattle.jz_integers.specs.InnerLeftSides.{left_at}
use Rattle.jz_integers.proofs.written.down.Given as goal

abbrev pub invariant-loop-step : goal.invariant-loop-step
invariant-loop-step l = l.rest ≡ left_at l._step l.e
