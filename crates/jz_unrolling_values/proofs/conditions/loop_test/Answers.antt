use Rattle.std.proofs.Common.{subst}
use Rattle.jz_unrolling_values.specs.declared.conditions.Test.TheVariants.{Always}
use Rattle.jz_unrolling_values.specs.InlineNames.{names_in}
use Rattle.jz_unrolling_values.specs.Numbers.{numbers_in}
use Rattle.jz_unrolling_values.specs.Parts.{IsTest}
use Rattle.jz_unrolling_values.proofs.RefusalLemmas.{handed, asked_test, true_test, no_test_loops, false_never_loops}
use Rattle.jz_unrolling_values.proofs.conditions.loop_test.Goals as goal

pub returns-in_err-cond : goal.returns-in_err-cond
returns-in_err-cond c =
    handed _ _ c.from_residual.result c.in_err-cond.field-0.0 c.from_residual.ensures.1 c.in_err-cond.ensures
    (no_test_loops (names_in c.args.values.now.vars.now) (numbers_in c.args.values.now.known.now) c.args.cond.now)

pub returns-in-Asked : goal.returns-in-Asked
returns-in-Asked c =
    let names = names_in c.args.values.now.vars.now in
    let e = numbers_in c.args.values.now.known.now in
    asked_test names e c.args.cond.now c.in-Asked.cond (subst (λ k. IsTest names e c.args.cond.now k) c.in-Asked.is c.in_ok-cond.ensures)

pub returns-then-answer : goal.returns-then-answer
returns-then-answer c =
    let names = names_in c.args.values.now.vars.now in
    let e = numbers_in c.args.values.now.known.now in
    let i = c.in-Always in
    true_test names e c.args.cond.now i.span (subst (λ z. IsTest names e c.args.cond.now (Always z i.span)) c.if-answer.true (subst (λ k. IsTest names e c.args.cond.now k) i.is c.in_ok-cond.ensures))

pub returns-else-answer : goal.returns-else-answer
returns-else-answer c =
    let names = names_in c.args.values.now.vars.now in
    let e = numbers_in c.args.values.now.known.now in
    let i = c.in-Always in
    false_never_loops names e c.args.cond.now i.span (subst (λ z. IsTest names e c.args.cond.now (Always z i.span)) c.if-answer.false (subst (λ k. IsTest names e c.args.cond.now k) i.is c.in_ok-cond.ensures))
