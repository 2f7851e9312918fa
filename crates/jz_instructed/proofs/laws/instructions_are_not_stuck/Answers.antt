use Rattle.jz_instructed.proofs.Instructions.{instructions_go, instructions_stand}
use Rattle.jz_instructed.proofs.laws.instructions_are_not_stuck.Goals as goal

pub returns-clause-runs : goal.returns-clause-runs
returns-clause-runs c = instructions_go

pub returns-clause-stands : goal.returns-clause-stands
returns-clause-stands c = instructions_stand
