use Rattle.jz_disasm.proofs.Digits.{one_hex_fault}
use Rattle.jz_disasm.proofs.laws.one_hex_fault.Goals as goal

pub returns : goal.returns
returns c = one_hex_fault
