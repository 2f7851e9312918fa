use Rattle.x64_insn.proofs.Quotients.{signed_quotient_missed}
use Rattle.x64_insn.proofs.results.signed_quotient_is_missed.Goals as goal

pub returns : goal.returns
returns c = signed_quotient_missed
