use Rattle.jz_compiled.proofs.Printed.{meets}
use Rattle.jz_compiled.proofs.laws.printed_preconditions_are_declared.Goals as goal

pub returns : goal.returns
returns c = meets
