use Rattle.std.proofs.Common.{sym, subst}
use Rattle.jz_unrolling_values.specs.InlineNames.{names_in}
use Rattle.jz_unrolling_values.specs.Numbers.{numbers_in}
use Rattle.jz_unrolling_values.specs.Refusals.{NeverIf}
use Rattle.jz_unrolling_values.proofs.RefusalLemmas.{handed}
use Rattle.jz_unrolling_values.proofs.SettingLemmas.{never_if}
use Rattle.jz_unrolling_values.proofs.settings.is_set.Goals as goal

pub returns-in_err-answer-in-Some : goal.returns-in_err-answer-in-Some
returns-in_err-answer-in-Some c =
    let names = names_in c.args.values.now.vars.now in
    let e = numbers_in c.args.values.now.known.now in
    handed _ _ c.from_residual.result c.in_err-answer-in-Some.field-0.0 c.from_residual.ensures.1 c.in_err-answer-in-Some.ensures
    (λ fails. subst (λ x. NeverIf e c.args.var.now x) (sym c.in-Some.is) (never_if names e c.args.var.now c.in-Some.cond fails))
