use Rattle.std.proofs.Common.{◌≡◌, rules}
use Rattle.std.proofs.lemmas.Result.{err_from_is_err_and}
use Rattle.jasminc_top.specs.declared.refusal.Refusal.TheVariants.{Disasm}
use Rattle.jasminc_top.proofs.DisasmCauses.{disasm_fails, disasm_done}
use Rattle.jasminc_top.proofs.answer.disasm_reply.Goals as goal

pub returns-in_err-lines : goal.returns-in_err-lines
returns-in_err-lines c =
    let p = err_from_is_err_and c.from_residual.result c.from_residual.ensures.1 in
    rw (p.1, p.2) (disasm_fails c.args.file.now c.args.text.now _ c.disasm_text-answer.result _ c.requires c.disasm_text-answer.ensures
    (λ f r b. let is : r ≡ Disasm f = search rules in is) c.in_err-lines.ensures.refused)

pub returns : goal.returns
returns c =
    disasm_done c.args.file.now c.args.text.now c.disasm_text-answer.result c.in_ok-lines.lines _ c.requires c.in_ok-lines.ensures.ok c.disasm_text-answer.ensures c.new.ensures
