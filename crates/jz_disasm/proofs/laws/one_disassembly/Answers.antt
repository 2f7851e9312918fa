use Rattle.jz_disasm.proofs.Joining.{one_disassembly}
use Rattle.jz_disasm.proofs.laws.one_disassembly.Goals as goal

pub returns : goal.returns
returns c = one_disassembly
