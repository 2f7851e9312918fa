use Rattle.std.proofs.Common.{ℕ, ◌<◌, get_or}
use Rattle.jz_type_storage.proofs.fall.are_below.Given as goal

abbrev pub invariant-loop-rank : goal.invariant-loop-rank
invariant-loop-rank l = (k : ℕ) → k < l.rank-index → get_or l.ranks k 0 < l.limit
