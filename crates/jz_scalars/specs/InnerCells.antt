-- Cells as the code finds them.
use Rattle.std.specs.Prelude.{ℕ, Option, Some, None}
use Rattle.jz_tree.specs.Size.{Size}
use Rattle.jz_scalars.specs.declared.cells.RegisterCell.{RegisterCell}

abbrev pub register_cell : Option Size → Option ℕ → Option RegisterCell
register_cell (Some z) (Some n) = Some (record { size = z; number = n })
register_cell _ _ = None
