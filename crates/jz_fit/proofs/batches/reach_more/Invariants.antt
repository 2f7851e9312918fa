use Rattle.std.proofs.Common.{◌≡◌, length}
use Rattle.jz_fit.proofs.batches.reach_more.Given as goal

abbrev pub invariant-loop-variable : goal.invariant-loop-variable
invariant-loop-variable l = length l.reaches.items ≡ length l.fn.reaches.items
