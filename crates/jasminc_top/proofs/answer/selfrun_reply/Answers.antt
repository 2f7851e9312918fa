use Rattle.std.proofs.Common.{◌≡◌, rules}
use Rattle.std.proofs.lemmas.Result.{err_from_is_err_and}
use Rattle.jasminc_top.specs.declared.refusal.Refusal.TheVariants.{Exec}
use Rattle.jasminc_top.proofs.ProgramCauses.{selfrun_fails, selfrun_done}
use Rattle.jasminc_top.proofs.answer.selfrun_reply.Goals as goal

pub returns-in_err-told : goal.returns-in_err-told
returns-in_err-told c =
    let p = err_from_is_err_and c.from_residual.result c.from_residual.ensures.1 in
    rw (p.1, p.2) (selfrun_fails c.args.seed c.args.size c.args.fuel c.args.text.now c.selfrun_text-answer.result c.selfrun_text-answer.ensures _ _
    (λ r q b. let is : q ≡ Exec r = search rules in is) c.in_err-told.ensures.refused)

pub returns : goal.returns
returns c =
    selfrun_done c.args.seed c.args.size c.args.fuel c.args.text.now c.selfrun_text-answer.result c.selfrun_text-answer.ensures c.in_ok-told.told _ _ _ c.in_ok-told.ensures.ok
    c.told_reply.ensures.told c.told_reply.ensures.made
