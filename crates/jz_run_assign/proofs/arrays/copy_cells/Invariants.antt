use Rattle.std.proofs.Common.{◌≡◌}
use Rattle.jz_meaning.specs.Stores.{store_of}
use Rattle.jz_meaning.specs.Statements.{copied}
use Rattle.jz_meaning.specs.Values.{ref_of}
use Rattle.jz_run_assign.proofs.arrays.copy_cells.Given as goal

abbrev pub invariant-loop-cell : goal.invariant-loop-cell
invariant-loop-cell l = store_of l.store ≡ copied l.cell (ref_of l.to) (ref_of l.from) (store_of l.source) (store_of l.fn.store)
