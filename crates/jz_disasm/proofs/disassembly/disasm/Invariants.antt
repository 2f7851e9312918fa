use Rattle.std.proofs.Common.{◌-◌, length}
use Rattle.jz_disasm.proofs.Joining.{Until}
use Rattle.jz_disasm.proofs.disassembly.disasm.Given as goal

abbrev pub invariant-loop-offset : goal.invariant-loop-offset
invariant-loop-offset l = Until l.code l.offset l.text.items

abbrev pub decreases-loop-offset : goal.decreases-loop-offset
decreases-loop-offset l = length l.code - l.offset
