use Rattle.jz_run_laws.proofs.Sizes.{size_law}
use Rattle.jz_run_laws.proofs.size_laws.expressions_have_one_size.Goals as goal

pub returns : goal.returns
returns c = size_law
