use Rattle.jz_fine_rows.proofs.Assigned.{assignments_are_fine}
use Rattle.jz_fine_rows.proofs.laws.assignments_are_fine.Goals as goal

pub returns : goal.returns
returns c = assignments_are_fine
