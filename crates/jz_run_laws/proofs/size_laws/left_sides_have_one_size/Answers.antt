use Rattle.jz_run_laws.proofs.LeftSizes.{left_law}
use Rattle.jz_run_laws.proofs.size_laws.left_sides_have_one_size.Goals as goal

pub returns : goal.returns
returns c = left_law
