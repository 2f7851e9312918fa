use Rattle.x64_insn.proofs.ResultFlags.{sub_shows}
use Rattle.x64_insn.proofs.laws.sub_shows_its_difference.Goals as goal

pub returns : goal.returns
returns c = sub_shows
