use Rattle.std.proofs.Common.{arith}
use Rattle.jz_fact_readings.proofs.LeftSides.{step_down}
use Rattle.jz_fact_readings.proofs.sides.way_down.Goals as goal

pub loop-first-preserved : goal.loop-first-preserved
loop-first-preserved c =
    let p = step_down _ _ _ _ _ _ _ _ c.in-Bin.is c.get-first.ensures c.loop-first.invariant.0 c.loop-first.invariant.1 in
    (p.0, p.1, omega (arith, c.if-steps-ge-MOST.false))
