use Rattle.std.proofs.Common.{◌-◌, ◌≡◌}
use Rattle.jz_layers.specs.Spots.{entry_in}
use Rattle.jz_layers.specs.Layered.{seen}
use Rattle.jz_layers.proofs.Covering.{Covered}
use Rattle.jz_layers.proofs.layers.Layers.pour.Given as goal

abbrev pub invariant-loop-i : goal.invariant-loop-i
invariant-loop-i g l =
    (l.self.below.items ≡ l.fn.self.below.items)
    × Covered (entry_in l.table) (entry_in l.fn.self.top) l.table.entries l.i (entry_in l.self.top)
    × Covered (entry_in l.table) (seen l.fn.self) l.table.entries l.i (seen l.self)

abbrev pub decreases-loop-i : goal.decreases-loop-i
decreases-loop-i g l = l.count - l.i
