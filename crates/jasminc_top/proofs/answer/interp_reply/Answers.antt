use Rattle.std.proofs.Common.{◌≡◌, rules}
use Rattle.std.proofs.lemmas.Result.{err_from_is_err_and}
use Rattle.jasminc_words.specs.Wanted.{called_of}
use Rattle.jasminc_top.specs.declared.refusal.Refusal.TheVariants.{Interp}
use Rattle.jasminc_top.proofs.InterpCauses.{interp_fails, interp_done, says_done}
use Rattle.jasminc_top.proofs.answer.interp_reply.Goals as goal

pub returns-in_err-ran : goal.returns-in_err-ran
returns-in_err-ran c =
    let p = err_from_is_err_and c.from_residual.result c.from_residual.ensures.1 in
    rw (p.1, p.2) (interp_fails (called_of c.args.call.now) c.args.text.now _ c.interp_text-answer.result _ c.requires c.interp_text-answer.ensures
    (λ r q b. let is : q ≡ Interp r = search rules in is) c.in_err-ran.ensures.refused)

pub returns : goal.returns
returns c =
    interp_done (called_of c.args.call.now) c.args.text.now c.in_ok-ran.ran _ _ _ c.requires
    (says_done (called_of c.args.call.now) c.args.text.now c.interp_text-answer.result c.in_ok-ran.ran c.in_ok-ran.ensures.ok c.interp_text-answer.ensures)
    c.outcome_reply.ensures.told c.outcome_reply.ensures.none
