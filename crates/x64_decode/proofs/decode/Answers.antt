-- The computed answer is exact.
use Rattle.std.proofs.Common.{◌∙◌, sym}
use Rattle.x64_decode.proofs.DecodeExact.{insn_from, insn_to, beginning_from, beginning_to, unknown_from, unknown_to}
use Rattle.x64_decode.proofs.decode.Goals as goal

pub returns-clause-insn : goal.returns-clause-insn
returns-clause-insn c = λ i len. (λ h. c.answer.ensures ∙ insn_from c.args.bytes.now i len h, λ e. insn_to c.args.bytes.now i len (sym c.answer.ensures ∙ e))

pub returns-clause-truncated : goal.returns-clause-truncated
returns-clause-truncated c = (λ h. c.answer.ensures ∙ beginning_from c.args.bytes.now h, λ e. beginning_to c.args.bytes.now (sym c.answer.ensures ∙ e))

pub returns-clause-unknown : goal.returns-clause-unknown
returns-clause-unknown c = (λ h. unknown_from c.args.bytes.now c.answer.result (sym c.answer.ensures) h.0 h.1, λ e. unknown_to c.args.bytes.now (sym c.answer.ensures ∙ e))
