use Rattle.jz_parse.specs.Deriving.{most_nested}
use Rattle.jz_parse.proofs.Faults.{one_fault_law}
use Rattle.jz_parse.proofs.read.one_fault.Goals as goal

pub returns : goal.returns
returns c = one_fault_law most_nested
