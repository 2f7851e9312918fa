use Rattle.jz_parse.specs.Deriving.{most_nested}
use Rattle.jz_parse.proofs.Faults.{one_program_law}
use Rattle.jz_parse.proofs.read.one_program.Goals as goal

pub returns : goal.returns
returns c = one_program_law most_nested
