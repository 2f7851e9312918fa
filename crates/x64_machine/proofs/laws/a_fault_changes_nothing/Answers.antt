use Rattle.x64_machine.proofs.MachineRunning.{fault_step}
use Rattle.x64_machine.proofs.laws.a_fault_changes_nothing.Goals as goal

pub returns : goal.returns
returns c = fault_step
