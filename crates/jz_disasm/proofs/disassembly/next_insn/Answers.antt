use Rattle.std.proofs.Common.{sym, subst, refl}
use Rattle.x64_insn.specs.Encoding.{Decodes}
use Rattle.jz_disasm.proofs.disassembly.next_insn.Goals as goal

pub returns-in-Insn-clause-insn : goal.returns-in-Insn-clause-insn
returns-in-Insn-clause-insn c =
    subst (λ n. Decodes c.args.bytes.now c.in-Insn.insn n) (sym c.from.ensures) ((c.in-Insn.ensures.insn c.in-Insn.insn c.in-Insn.len).1 refl)

pub returns-in-Unknown-clause-gap : goal.returns-in-Unknown-clause-gap
returns-in-Unknown-clause-gap c = c.in-Unknown.ensures.unknown.1 refl
