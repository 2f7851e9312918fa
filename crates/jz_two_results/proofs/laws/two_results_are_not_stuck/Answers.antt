use Rattle.jz_two_results.proofs.TwoValues.{two_go, two_stand}
use Rattle.jz_two_results.proofs.laws.two_results_are_not_stuck.Goals as goal

pub returns-clause-runs : goal.returns-clause-runs
returns-clause-runs c = two_go

pub returns-clause-stands : goal.returns-clause-stands
returns-clause-stands c = two_stand
