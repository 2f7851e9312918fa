use Rattle.std.proofs.Common.{◌≡◌, ℕ, ◌+◌, ◌/◌, ◌<◌, ◌≤◌, IsTrue, length, get_or}
use Rattle.jz_bits.specs.Has.{has}
use Rattle.jz_fit.proofs.fit.followed_in.Given as goal

abbrev pub invariant-loop-k : goal.invariant-loop-k
invariant-loop-k l =
    (length l.followed ≡ l.count / 64 + 1)
    × ((j : ℕ) → l.from ≤ j → j < l.k → IsTrue (has l.followed (get_or l.order j 0)))
    × ((v : ℕ) → IsTrue (has l.followed v) → v < l.count)
