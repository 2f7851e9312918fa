use Rattle.x64_insn.proofs.Quotients.{quotient_missed}
use Rattle.x64_insn.proofs.results.quotient_is_missed.Goals as goal

pub returns : goal.returns
returns c = quotient_missed
