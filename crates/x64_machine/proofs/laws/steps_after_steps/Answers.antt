use Rattle.x64_machine.proofs.MachineRunning.{steps_both}
use Rattle.x64_machine.proofs.laws.steps_after_steps.Goals as goal

pub returns : goal.returns
returns c = steps_both
