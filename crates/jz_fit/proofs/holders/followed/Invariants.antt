use Rattle.std.proofs.Common.{◌≡◌, ℕ, ◌+◌, ◌/◌, ◌<◌, IsTrue, length}
use Rattle.jz_bits.specs.Has.{has}
use Rattle.jz_fit.specs.InnerHolding.{SeatIs}
use Rattle.jz_fit.proofs.holders.followed.Given as goal

abbrev pub invariant-loop-other : goal.invariant-loop-other
invariant-loop-other l = (length l.row ≡ length l.places / 64 + 1) × ((u q : ℕ) → u < l.other → SeatIs l.places u q → IsTrue (has l.row u))
