use Rattle.std.proofs.Common.{◌-◌}
use Rattle.jz_layers.specs.Spots.{cell_spot}
use Rattle.jz_asked.proofs.Looking.{NoneBefore}
use Rattle.jz_asked.proofs.cells.is_noted_set.Given as goal

abbrev pub invariant-loop-i : goal.invariant-loop-i
invariant-loop-i l = NoneBefore l.says.set.now.noted.entries l.i (cell_spot l.var l.index)

abbrev pub decreases-loop-i : goal.decreases-loop-i
decreases-loop-i l = l.count - l.i
