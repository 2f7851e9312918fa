use Rattle.std.proofs.Common.{◌≡◌, rules}
use Rattle.std.proofs.lemmas.Result.{err_from_is_err_and}
use Rattle.jasminc_top.specs.declared.refusal.Refusal.TheVariants.{Compile}
use Rattle.jasminc_top.proofs.CompileCauses.{compile_fails, compile_done}
use Rattle.jasminc_top.proofs.answer.compile_reply.Goals as goal

pub returns-in_err-compiled : goal.returns-in_err-compiled
returns-in_err-compiled c =
    let p = err_from_is_err_and c.from_residual.result c.from_residual.ensures.1 in
    rw (p.1, p.2) (compile_fails c.args.file.now c.args.text.now _ c.compile_text-answer.result _ c.requires c.compile_text-answer.ensures
    (λ r q b. let is : q ≡ Compile r = search rules in is) c.in_err-compiled.ensures.refused)

pub returns : goal.returns
returns c =
    compile_done c.args.file.now c.args.text.now c.compile_text-answer.result c.in_ok-compiled.compiled c.requires c.in_ok-compiled.ensures.ok c.compile_text-answer.ensures
