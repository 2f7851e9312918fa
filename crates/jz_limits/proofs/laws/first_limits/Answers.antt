use Rattle.jz_limits.proofs.First.{within_or_first, one_first, none_within}
use Rattle.jz_limits.proofs.laws.first_limits.Goals as goal

pub returns-clause-either : goal.returns-clause-either
returns-clause-either c = within_or_first

pub returns-clause-one : goal.returns-clause-one
returns-clause-one c = one_first

pub returns-clause-none : goal.returns-clause-none
returns-clause-none c = none_within
