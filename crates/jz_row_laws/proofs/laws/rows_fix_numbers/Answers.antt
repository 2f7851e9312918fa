use Rattle.jz_row_laws.proofs.Copied.{copied_fixed}
use Rattle.jz_row_laws.proofs.Selected.{selected_fixed}
use Rattle.jz_row_laws.proofs.laws.rows_fix_numbers.Goals as goal

pub returns : goal.returns
returns c = record { statements = selected_fixed; copies = λ sorts to e p h. copied_fixed sorts to e p h }
