use Rattle.jz_disasm.proofs.Joining.{one_gap}
use Rattle.jz_disasm.proofs.laws.one_gap.Goals as goal

pub returns : goal.returns
returns c = one_gap
