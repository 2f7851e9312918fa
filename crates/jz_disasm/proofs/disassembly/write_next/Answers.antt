use Rattle.std.proofs.Common.{refl, subst}
use Rattle.std.proofs.lemmas.List.{take_rest}
use Rattle.jz_disasm.specs.Disassembly.{HasNoInsn}
use Rattle.jz_disasm.proofs.disassembly.write_next.Goals as goal

pub returns-in-Err-clause-gap : goal.returns-in-Err-clause-gap
returns-in-Err-clause-gap c =
    (refl, subst (λ z. HasNoInsn z c.in-Err.kind) (take_rest c.args.code.now c.args.offset) c.in-Err.ensures.gap)
