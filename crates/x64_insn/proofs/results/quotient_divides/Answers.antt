use Rattle.x64_insn.proofs.Quotients.{quotient_divides}
use Rattle.x64_insn.proofs.results.quotient_divides.Goals as goal

pub returns : goal.returns
returns c = quotient_divides
