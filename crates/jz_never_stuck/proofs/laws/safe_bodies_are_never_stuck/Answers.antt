use Rattle.jz_never_stuck.proofs.Whole.{none_has_sets, expanded_never}
use Rattle.jz_never_stuck.proofs.laws.safe_bodies_are_never_stuck.Goals as goal

pub returns-clause-sets : goal.returns-clause-sets
returns-clause-sets c = none_has_sets

pub returns-clause-expanded : goal.returns-clause-expanded
returns-clause-expanded c = expanded_never
