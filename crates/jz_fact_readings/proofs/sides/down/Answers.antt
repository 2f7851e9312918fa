use Rattle.std.proofs.Common.{◌∙◌}
use Rattle.jz_fact_readings.proofs.LeftSides.{one_less}
use Rattle.jz_fact_readings.proofs.sides.down.Goals as goal

pub loop-rest-preserved : goal.loop-rest-preserved
loop-rest-preserved c = one_less _ _ _ c.loop-rest-test.true c.left_or_itself-first.ensures ∙ c.loop-rest.invariant
