use Rattle.jz_types.proofs.RowsHeld.{rows_held}
use Rattle.jz_types.proofs.laws.statements_have_rows.Goals as goal

pub returns : goal.returns
returns c = rows_held
