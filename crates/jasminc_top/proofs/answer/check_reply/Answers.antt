use Rattle.std.proofs.Common.{◌≡◌, rules}
use Rattle.std.proofs.lemmas.Result.{err_from_is_err_and}
use Rattle.jasminc_top.specs.declared.refusal.Refusal.TheVariants.{Check}
use Rattle.jasminc_top.proofs.CheckCauses.{check_fails, check_done}
use Rattle.jasminc_top.proofs.answer.check_reply.Goals as goal

pub returns-in_err-safe : goal.returns-in_err-safe
returns-in_err-safe c =
    let p = err_from_is_err_and c.from_residual.result c.from_residual.ensures.1 in
    rw (p.1, p.2) (check_fails c.args.file.now c.args.text.now _ c.check_text-answer.result _ c.requires c.check_text-answer.ensures
    (λ r q b. let is : q ≡ Check r = search rules in is) c.in_err-safe.ensures.refused)

pub returns : goal.returns
returns c =
    check_done c.args.file.now c.args.text.now c.check_text-answer.result c.in_ok-safe.safe _ c.requires c.in_ok-safe.ensures.ok c.check_text-answer.ensures c.new.ensures
