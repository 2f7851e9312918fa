use Rattle.std.proofs.Common.{◌≡◌, rules}
use Rattle.std.proofs.lemmas.Result.{err_from_is_err_and}
use Rattle.jasminc_top.specs.declared.refusal.Refusal.TheVariants.{Ct}
use Rattle.jasminc_top.proofs.CtCauses.{ct_fails, ct_done}
use Rattle.jasminc_top.proofs.answer.ct_reply.Goals as goal

pub returns-in_err-constant : goal.returns-in_err-constant
returns-in_err-constant c =
    let p = err_from_is_err_and c.from_residual.result c.from_residual.ensures.1 in
    rw (p.1, p.2) (ct_fails c.args.file.now c.args.text.now _ c.ct_text-answer.result _ c.requires c.ct_text-answer.ensures
    (λ r q b. let is : q ≡ Ct r = search rules in is) c.in_err-constant.ensures.refused)

pub returns : goal.returns
returns c =
    ct_done c.args.file.now c.args.text.now c.ct_text-answer.result c.in_ok-constant.constant _ c.requires c.in_ok-constant.ensures.ok c.ct_text-answer.ensures c.new.ensures
