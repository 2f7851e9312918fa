use Rattle.std.proofs.Common.{◌≡◌}
use Rattle.jz_layers.specs.Spots.{variable_key}
use Rattle.jz_alarms.specs.Conditions.{all_cells}
use Rattle.jz_inside.specs.Said.{given_in, facts_in}
use Rattle.jz_asked.proofs.cells.are_cells_set.Given as goal

abbrev pub invariant-loop-rest : goal.invariant-loop-rest
invariant-loop-rest l =
    all_cells (given_in l.says) (facts_in l.says) (variable_key l.var) l.rest ≡ all_cells (given_in l.says) (facts_in l.says) (variable_key l.var) l.cells

abbrev pub decreases-loop-rest : goal.decreases-loop-rest
decreases-loop-rest l = l.rest
