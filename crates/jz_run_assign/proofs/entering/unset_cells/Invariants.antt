use Rattle.std.proofs.Common.{◌≡◌}
use Rattle.jz_meaning.specs.Stores.{store_of}
use Rattle.jz_meaning.specs.Statements.{no_cells}
use Rattle.jz_meaning.specs.Values.{ref_of}
use Rattle.jz_run_assign.proofs.entering.unset_cells.Given as goal

abbrev pub invariant-loop-cell : goal.invariant-loop-cell
invariant-loop-cell l = store_of l.store ≡ no_cells l.cell (ref_of l.var) (store_of l.fn.store)
