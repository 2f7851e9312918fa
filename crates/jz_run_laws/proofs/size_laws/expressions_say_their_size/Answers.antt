use Rattle.jz_run_laws.proofs.Sizes.{says_law}
use Rattle.jz_run_laws.proofs.size_laws.expressions_say_their_size.Goals as goal

pub returns : goal.returns
returns c = says_law
