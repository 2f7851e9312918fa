use Rattle.x64_insn.proofs.ResultFlags.{xor_shows}
use Rattle.x64_insn.proofs.laws.xor_shows_different_bits.Goals as goal

pub returns : goal.returns
returns c = xor_shows
