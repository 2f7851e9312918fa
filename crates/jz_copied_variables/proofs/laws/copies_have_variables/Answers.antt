use Rattle.jz_copied_variables.proofs.Copied.{copies_have_variables}
use Rattle.jz_copied_variables.proofs.laws.copies_have_variables.Goals as goal

pub returns : goal.returns
returns c = copies_have_variables
