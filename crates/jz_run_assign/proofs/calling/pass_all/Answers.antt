use Rattle.std.proofs.Common.{◌≡◌, refl, ap, sym, ◌∙◌, rules}
use Rattle.std.specs.Option.{option_copied}
use Rattle.jz_meaning.specs.declared.value.Why.TheVariants.{Init}
use Rattle.jz_meaning.specs.Attempts.{changed, numbers_first}
use Rattle.jz_meaning.specs.Statements.{all_passed}
use Rattle.jz_meaning.specs.Stores.{state_of, store_of}
use Rattle.jz_meaning.proofs.AttemptLemmas.{handed_on}
use Rattle.jz_run_assign.proofs.StepLemmas.{pair_stuck, pair_goes, too_few, too_many, passing, pass_one}
use Rattle.jz_run_assign.proofs.calling.pass_all.Goals as goal

pub returns-in-None : goal.returns-in-None
returns-in-None c =
    too_few (passing c.args.span (state_of c.args.state.now)) (pass_one c.args.span (state_of c.args.state.now)) (λ x y xs ys t. refl) c.args.params.now c.args.args.now c.loop-i.i c.loop-i.out (store_of c.loop-i.inner) _ c.loop-i.invariant c.param-item.result c.missing.result (record { span = c.args.span; why = Init }) c.missing.ensures (λ x xs. refl) (search rules) (search rules)
    (sym c.get.ensures.value ∙ ap option_copied c.in-None.is)

pub returns-in_err-pass-in-Some : goal.returns-in_err-pass-in-Some
returns-in_err-pass-in-Some c =
    let s = state_of c.args.state.now in
    let ns = c.loop-i.out in
    let ms = c.pass.new.out in
    let t = store_of c.pass.new.inner in
    let p = c.param-item.result in
    let e = c.in-Some.arg.now in
    let whole = numbers_first c.args.out.now (all_passed c.args.span c.args.params.now c.args.args.now s (store_of c.args.inner.now)) in
    handed_on c.from_residual.result c.in_err-pass-in-Some.field-0.0 (λ r. changed ms t r ≡ numbers_first ns (pass_one c.args.span s p e (store_of c.loop-i.inner)))
    (λ r. changed ms t r ≡ whole) c.from_residual.ensures.1 c.in_err-pass-in-Some.ensures
    (λ k h. pair_stuck (passing c.args.span (state_of c.args.state.now)) (pass_one c.args.span (state_of c.args.state.now)) (λ x y xs ys t. refl) c.args.params.now c.args.args.now c.loop-i.i c.loop-i.out (store_of c.loop-i.inner) whole c.loop-i.invariant p e k (search rules) (search rules) (sym c.get.ensures.value ∙ ap option_copied c.in-Some.is) h)

pub loop-i-preserved : goal.loop-i-preserved
loop-i-preserved c =
    pair_goes (passing c.args.span (state_of c.args.state.now)) (pass_one c.args.span (state_of c.args.state.now)) (λ x y xs ys t. refl) c.args.params.now c.args.args.now c.loop-i.i c.loop-i.out (store_of c.loop-i.inner) _ c.loop-i.invariant c.param-item.result c.in-Some.arg.now c.pass.new.out (store_of c.pass.new.inner) (search rules) (search rules)
    (sym c.get.ensures.value ∙ ap option_copied c.in-Some.is) c.in_ok-pass-in-Some.ensures

pub returns-then-len : goal.returns-then-len
returns-then-len c =
    too_many (passing c.args.span (state_of c.args.state.now)) (pass_one c.args.span (state_of c.args.state.now)) (λ x y xs ys t. refl) c.args.params.now c.args.args.now c.loop-i.i c.loop-i.out (store_of c.loop-i.inner) _ c.loop-i.invariant c.missing-then-len.result (record { span = c.args.span; why = Init }) c.missing-then-len.ensures (λ y ys. refl) (search rules) (search rules)
