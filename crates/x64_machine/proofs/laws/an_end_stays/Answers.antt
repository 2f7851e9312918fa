use Rattle.x64_machine.proofs.MachineRunning.{end_stays}
use Rattle.x64_machine.proofs.laws.an_end_stays.Goals as goal

pub returns : goal.returns
returns c = end_stays
