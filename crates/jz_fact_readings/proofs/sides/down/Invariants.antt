use Rattle.std.proofs.Common.{◌≡◌, ◌≤◌}
use Rattle.jz_integers.specs.InnerLeftSides.{left_at}
use Rattle.jz_fact_readings.proofs.sides.down.Given as goal

abbrev pub invariant-loop-rest : goal.invariant-loop-rest
invariant-loop-rest l = left_at l.rest l.first ≡ left_at l.steps l.e

abbrev pub decreases-loop-rest : goal.decreases-loop-rest
decreases-loop-rest l = l.rest
