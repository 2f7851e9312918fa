use Rattle.jz_live.proofs.Backward.{Backwards}
use Rattle.jz_live.proofs.straight.live_after.Given as goal

abbrev pub invariant-loop-i : goal.invariant-loop-i
invariant-loop-i l = Backwards l.ops l.count l.rows.items l.live l.i
