use Rattle.std.proofs.Common.{take}
use Rattle.jz_disasm_text.specs.Shown.{AreShown}
use Rattle.jz_disasm_text.proofs.show_functions.Given as goal

abbrev pub invariant-loop-fun : goal.invariant-loop-fun
invariant-loop-fun l = AreShown (take l.fun-index l.funs) l.text.items
