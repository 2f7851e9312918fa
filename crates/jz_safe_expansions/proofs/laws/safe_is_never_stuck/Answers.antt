use Rattle.jz_safe_expansions.proofs.Whole.{expansions_are_fine, safe_never, source_never}
use Rattle.jz_safe_expansions.proofs.laws.safe_is_never_stuck.Goals as goal

pub returns-clause-fine : goal.returns-clause-fine
returns-clause-fine c = expansions_are_fine

pub returns-clause-compiled : goal.returns-clause-compiled
returns-clause-compiled c = safe_never

pub returns-clause-source : goal.returns-clause-source
returns-clause-source c = source_never
