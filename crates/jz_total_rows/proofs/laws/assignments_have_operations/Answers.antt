use Rattle.jz_total_rows.proofs.Whole.{assignments}
use Rattle.jz_total_rows.proofs.laws.assignments_have_operations.Goals as goal

pub returns : goal.returns
returns c = assignments
