use Rattle.std.proofs.Common.{ℕ, ◌<◌, ◌≤◌, length, get_or}
use Rattle.jz_type_storage.specs.InnerNumbers.{row_of}
use Rattle.jz_type_storage.proofs.fall.descends.Given as goal

abbrev pub invariant-loop-i : goal.invariant-loop-i
invariant-loop-i l =
    (i k : ℕ) → i < l.i → k < length (row_of l.graph i) → get_or l.ranks (get_or (row_of l.graph i) k 0) 0 ≤ get_or l.ranks i 0
