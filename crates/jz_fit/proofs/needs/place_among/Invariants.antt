use Rattle.std.proofs.Common.{◌≡◌, ◌≤◌, ◌<◌, ◌-◌, ◌++◌, false, length, take, drop, get_or}
use Rattle.jz_alloc.specs.Needs.{need_before}
use Rattle.jz_alloc.specs.InnerNeeds.{insert_need}
use Rattle.jz_fit.proofs.needs.place_among.Given as goal

abbrev pub invariant-loop-low : goal.invariant-loop-low
invariant-loop-low l =
    (l.low ≤ l.high) × (l.high ≤ length l.needs.items)
    × (insert_need l.need l.needs.items ≡ take l.low l.needs.items ++ insert_need l.need (drop l.low l.needs.items))
    × (l.high < length l.needs.items → need_before (get_or l.needs.items l.high l.need) l.need ≡ false)

abbrev pub decreases-loop-low : goal.decreases-loop-low
decreases-loop-low l = l.high - l.low
