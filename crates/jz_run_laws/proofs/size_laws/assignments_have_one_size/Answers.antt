use Rattle.jz_run_laws.proofs.LeftSizes.{assignment_law}
use Rattle.jz_run_laws.proofs.size_laws.assignments_have_one_size.Goals as goal

pub returns : goal.returns
returns c = assignment_law
