use Rattle.x64_insn.proofs.ResultFlags.{add_shows}
use Rattle.x64_insn.proofs.laws.add_shows_its_sum.Goals as goal

pub returns : goal.returns
returns c = add_shows
