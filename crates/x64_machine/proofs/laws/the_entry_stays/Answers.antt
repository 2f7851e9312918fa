use Rattle.x64_machine.proofs.MachineRunning.{entry_steps}
use Rattle.x64_machine.proofs.laws.the_entry_stays.Goals as goal

pub returns : goal.returns
returns c = record {
  stack_pointer = λ code base k d. (entry_steps code base k d).0;
  return_address = λ code base k d. (entry_steps code base k d).1;
}
