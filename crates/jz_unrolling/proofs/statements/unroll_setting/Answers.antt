use Rattle.jz_unrolling_values.specs.InlineNames.{names_in}
use Rattle.jz_unrolling_values.specs.Numbers.{numbers_in}
use Rattle.jz_unrolling_values.proofs.RefusalLemmas.{handed}
use Rattle.jz_unrolling.proofs.FitLemmas.{plain_never}
use Rattle.jz_unrolling.proofs.statements.unroll_setting.Goals as goal

pub returns-in_err-step-in-Some : goal.returns-in_err-step-in-Some
returns-in_err-step-in-Some c =
    handed _ _ c.from_residual.result c.in_err-step-in-Some.field-0.0 c.from_residual.ensures.1 c.in_err-step-in-Some.ensures
    (λ fails. fails c.args.stmt.now.span)

pub returns-in_err-step-in-None : goal.returns-in_err-step-in-None
returns-in_err-step-in-None c =
    let names = names_in c.args.unroller.now.vars.now in
    let s = c.args.setting.now in
    handed _ _ c.from_residual-in_err-step-in-None.result c.in_err-step-in-None.field-0.0 c.from_residual-in_err-step-in-None.ensures.1 c.in_err-step-in-None.ensures
    (plain_never names s.to.now s.op s.value.now s.cond.now c.args.stmt.now.span (numbers_in c.args.known.now) c.in-None.ensures)
