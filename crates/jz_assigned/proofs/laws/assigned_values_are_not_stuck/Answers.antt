use Rattle.jz_assigned.proofs.OneValue.{assignments_go, assignments_stand}
use Rattle.jz_assigned.proofs.laws.assigned_values_are_not_stuck.Goals as goal

pub returns-clause-runs : goal.returns-clause-runs
returns-clause-runs c = assignments_go

pub returns-clause-stands : goal.returns-clause-stands
returns-clause-stands c = assignments_stand
