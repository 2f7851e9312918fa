use Rattle.std.proofs.Common.{◌≡◌, ◌≤◌, ◌-◌, take, length}
use Rattle.jz_layers.specs.Spots.{seen_in}
use Rattle.jz_layers.specs.Layered.{seen}
use Rattle.jz_layers.proofs.layers.Layers.copy.Given as goal

abbrev pub invariant-loop-i : goal.invariant-loop-i
invariant-loop-i g l = (l.i ≤ length l.self.below.items)
    × (seen l.copy ≡ seen_in (take l.i l.self.below.items))

abbrev pub decreases-loop-i : goal.decreases-loop-i
decreases-loop-i g l = l.count - l.i
