use Rattle.jz_run_laws.proofs.Uncut.{typed_law}
use Rattle.jz_run_laws.proofs.laws.typed_programs_have_no_recursion.Goals as goal

pub returns : goal.returns
returns c = typed_law
