use Rattle.std.proofs.Common.{[], rules, sym, subst, ◌∙◌}
use Rattle.std.specs.Int.{w128}
use Rattle.std.proofs.lemmas.Int.{to_z-of_z}
use Rattle.jz_runs.specs.Trees.{op}
use Rattle.jz_meaning.specs.Statements.{assign}
use Rattle.jz_change.specs.declared.change.Step.TheVariants as step
use Rattle.jz_unrolling_values.specs.InlineNames.{names_in}
use Rattle.jz_unrolling_values.specs.Numbers.{SetsIf, numbers_in}
use Rattle.jz_unrolling.specs.Steps.{AddsStep}
use Rattle.jz_unrolling.proofs.AddLemmas.{number_adds}
use Rattle.jz_unrolling_values.proofs.SettingLemmas.{number_is, no_number}
use Rattle.jz_unrolling_values.proofs.RefusalLemmas.{handed}
use Rattle.jz_unrolling.specs.Refusals.{NeverFits}
use Rattle.jz_unrolling.proofs.FitLemmas.{number_never}
use Rattle.jz_unrolling.proofs.statements.unroll_number.Goals as goal

pub returns : goal.returns
returns c =
    λ at out.
    let names = names_in c.args.unroller.now.vars.now in
    let s = c.args.setting.now in
    let k = c.args.known.now in
    let new = c.set_if.new.known in
    subst (λ q. AddsStep names (op (assign s.to.now s.op s.value.now s.cond.now at)) k new out out (step.Ops q)) (sym c.new.ensures)
    (subst (λ to. AddsStep names (op (assign to s.op s.value.now s.cond.now at)) k new out out (step.Ops [])) (sym c.requires.0)
    (number_adds names c.args.var.now s.op s.value.now s.cond.now at c.in_ok-number.number k new out c.in_ok-set.set (number_is names (numbers_in k) c.args.var.now (sym c.is_inline_number.ensures ∙ c.if-not-is_inline_number.false)) c.in_ok-number.ensures c.in_ok-set.ensures
    (subst (λ m. SetsIf c.in_ok-set.set k new c.args.var.now m) (to_z-of_z w128 c.in_ok-number.number (search rules)) c.in_ok-set_if.ensures)))

pub returns-then-not-is_inline_number : goal.returns-then-not-is_inline_number
returns-then-not-is_inline_number c =
    λ at.
    let names = names_in c.args.unroller.now.vars.now in
    let s = c.args.setting.now in
    let e = numbers_in c.args.known.now in
    subst (λ to. NeverFits names (op (assign to s.op s.value.now s.cond.now at)) e) (sym c.requires.0)
    (number_never names c.args.var.now s.op s.value.now s.cond.now at e c.requires.1
    (λ n b int inline cond whole set. no_number names e c.args.var.now (sym c.is_inline_number.ensures ∙ c.if-not-is_inline_number.true) int))

pub returns-in_err-number : goal.returns-in_err-number
returns-in_err-number c =
    let names = names_in c.args.unroller.now.vars.now in
    let s = c.args.setting.now in
    let e = numbers_in c.args.known.now in
    handed _ _ c.from_residual.result c.in_err-number.field-0.0 c.from_residual.ensures.1 c.in_err-number.ensures
    (λ fails at.
    subst (λ to. NeverFits names (op (assign to s.op s.value.now s.cond.now at)) e) (sym c.requires.0)
    (number_never names c.args.var.now s.op s.value.now s.cond.now at e c.requires.1 (λ n b int inline cond whole set. fails n inline whole)))

pub returns-in_err-set : goal.returns-in_err-set
returns-in_err-set c =
    let names = names_in c.args.unroller.now.vars.now in
    let s = c.args.setting.now in
    let e = numbers_in c.args.known.now in
    handed _ _ c.from_residual-in_err-set.result c.in_err-set.field-0.0 c.from_residual-in_err-set.ensures.1 c.in_err-set.ensures
    (λ fails at.
    subst (λ to. NeverFits names (op (assign to s.op s.value.now s.cond.now at)) e) (sym c.requires.0)
    (number_never names c.args.var.now s.op s.value.now s.cond.now at e c.requires.1 (λ n b int inline cond whole set. fails b cond set)))
