use Rattle.std.proofs.Common.{◌≡◌, drop}
use Rattle.jz_type_names.specs.Order.{earlier, first_in}
use Rattle.jz_type_names.specs.Lent.{paired_lists}
use Rattle.jz_type_rows.specs.Indexes.{indexed_at}
use Rattle.jz_type_rows.proofs.indexes.indexed_among.Given as goal

abbrev pub invariant-loop-array : goal.invariant-loop-array
invariant-loop-array l = earlier l.first (first_in indexed_at (paired_lists (drop l.array-index l.cells))) ≡ first_in indexed_at (paired_lists l.cells)
