use Rattle.std.proofs.Common.{◌≡◌, ℕ, ◌+◌, ◌-◌, ◌≤◌, ◌||◌, length, take}
use Rattle.jz_ir.specs.Paths.{among}
use Rattle.jz_live_lists.proofs.lists.joined.Given as goal

abbrev pub invariant-loop-i : goal.invariant-loop-i
invariant-loop-i l = (l.i ≤ length l.first) × (l.j ≤ length l.second) × ((w : ℕ) → among l.both w ≡ (among (take l.i l.first) w || among (take l.j l.second) w))

abbrev pub decreases-loop-i : goal.decreases-loop-i
decreases-loop-i l = (length l.first - l.i) + (length l.second - l.j)

abbrev pub invariant-loop-i-2 : goal.invariant-loop-i-2
invariant-loop-i-2 l = (l.i ≤ length l.first) × (l.j ≤ length l.second) × ((w : ℕ) → among l.both w ≡ (among (take l.i l.first) w || among (take l.j l.second) w))

abbrev pub decreases-loop-i-2 : goal.decreases-loop-i-2
decreases-loop-i-2 l = length l.first - l.i

abbrev pub invariant-loop-j : goal.invariant-loop-j
invariant-loop-j l = (l.j ≤ length l.second) × ((w : ℕ) → among l.both w ≡ (among l.one w || among (take l.j l.second) w))

abbrev pub decreases-loop-j : goal.decreases-loop-j
decreases-loop-j l = length l.second - l.j
