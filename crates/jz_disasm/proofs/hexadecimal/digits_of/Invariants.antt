use Rattle.std.proofs.Common.{take}
use Rattle.jz_disasm.specs.InnerDigits.{AreDigits}
use Rattle.jz_disasm.proofs.hexadecimal.digits_of.Given as goal

abbrev pub invariant-loop-i : goal.invariant-loop-i
invariant-loop-i l = AreDigits (take l.i l.text) l.digits.digits l.digits.end
