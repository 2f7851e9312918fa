use Rattle.std.proofs.Common.{◌≡◌, rules}
use Rattle.std.proofs.lemmas.Result.{err_from_is_err_and}
use Rattle.jasminc_words.specs.Wanted.{called_of}
use Rattle.jasminc_top.specs.declared.refusal.Refusal.TheVariants.{Exec}
use Rattle.jasminc_top.proofs.RunCauses.{exec_fails, exec_done}
use Rattle.jasminc_top.proofs.answer.exec_reply.Goals as goal

pub returns-in_err-told : goal.returns-in_err-told
returns-in_err-told c =
    let p = err_from_is_err_and c.from_residual.result c.from_residual.ensures.1 in
    rw (p.1, p.2) (exec_fails (called_of c.args.call.now) c.args.text.now _ c.exec_text-answer.result _ c.requires.short c.exec_text-answer.ensures
    (λ r q b. let is : q ≡ Exec r = search rules in is) c.in_err-told.ensures.refused)

pub returns : goal.returns
returns c =
    exec_done (called_of c.args.call.now) c.args.text.now c.exec_text-answer.result c.in_ok-told.told _ _ _ c.requires.short c.in_ok-told.ensures.ok c.exec_text-answer.ensures
    c.told_reply.ensures.told c.told_reply.ensures.made
