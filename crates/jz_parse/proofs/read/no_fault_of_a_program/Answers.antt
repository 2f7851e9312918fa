use Rattle.jz_parse.specs.Deriving.{most_nested}
use Rattle.jz_parse.proofs.Faults.{no_fault_law}
use Rattle.jz_parse.proofs.read.no_fault_of_a_program.Goals as goal

pub returns : goal.returns
returns c = no_fault_law most_nested
