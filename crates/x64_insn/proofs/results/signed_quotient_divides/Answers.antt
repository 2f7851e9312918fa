use Rattle.x64_insn.proofs.Quotients.{signed_quotient_divides}
use Rattle.x64_insn.proofs.results.signed_quotient_divides.Goals as goal

pub returns : goal.returns
returns c = signed_quotient_divides
