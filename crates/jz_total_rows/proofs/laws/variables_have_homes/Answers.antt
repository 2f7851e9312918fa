use Rattle.jz_total_rows.proofs.Placed as placed
use Rattle.jz_total_rows.proofs.laws.variables_have_homes.Goals as goal

pub returns : goal.returns
returns c = placed.variables_have_homes
