use Rattle.std.proofs.Common.{ℕ, ◌<◌, get_or}
use Rattle.jz_type_storage.proofs.fall.calls_below.Given as goal

abbrev pub invariant-loop-at : goal.invariant-loop-at
invariant-loop-at l = (k : ℕ) → k < l.at-index → get_or l.ranks (get_or l.called k 0) 0 < l.limit
