use Rattle.std.proofs.Common.{◌≡◌, ◌≤◌, take, length}
use Rattle.jz_layers.specs.Spots.{spot_of, seen_in}
use Rattle.jz_layers.proofs.layers.Layers.found_below.Given as goal

abbrev pub invariant-loop-i : goal.invariant-loop-i
invariant-loop-i g l = (l.i ≤ length l.self.below.items)
    × (seen_in (take l.i l.self.below.items) (spot_of l.named) ≡ seen_in l.self.below.items (spot_of l.named))

abbrev pub decreases-loop-i : goal.decreases-loop-i
decreases-loop-i g l = l.i
