use Rattle.jz_safe_functions.proofs.Whole.{safe_never, source_never}
use Rattle.jz_safe_functions.proofs.laws.safe_functions_are_never_stuck.Goals as goal

pub returns-clause-compiled : goal.returns-clause-compiled
returns-clause-compiled c = safe_never

pub returns-clause-source : goal.returns-clause-source
returns-clause-source c = source_never
