use Rattle.jz_disasm.proofs.Digits.{hex_or_fault}
use Rattle.jz_disasm.proofs.laws.hex_faults_give_no_bytes.Goals as goal

pub returns : goal.returns
returns c = hex_or_fault
