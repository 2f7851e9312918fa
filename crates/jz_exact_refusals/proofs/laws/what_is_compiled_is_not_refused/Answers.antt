use Rattle.jz_exact_refusals.proofs.Whole.{lowered_not_refused, made_not_refused, unplaced_not_refused}
use Rattle.jz_exact_refusals.proofs.laws.what_is_compiled_is_not_refused.Goals as goal

pub returns-clause-lowered : goal.returns-clause-lowered
returns-clause-lowered c = lowered_not_refused

pub returns-clause-compiled : goal.returns-clause-compiled
returns-clause-compiled c = made_not_refused

pub returns-clause-unplaced : goal.returns-clause-unplaced
returns-clause-unplaced c = unplaced_not_refused
