use Rattle.std.proofs.Common.{◌≡◌, refl, ap, sym, ◌∙◌, rules}
use Rattle.std.specs.Option.{option_copied}
use Rattle.jz_meaning.specs.declared.value.Why.TheVariants.{Init}
use Rattle.jz_meaning.specs.Attempts.{changed, numbers_first}
use Rattle.jz_meaning.specs.Statements.{all_given}
use Rattle.jz_meaning.specs.Stores.{state_of, store_of}
use Rattle.jz_meaning.proofs.AttemptLemmas.{handed_on}
use Rattle.jz_run_assign.proofs.StepLemmas.{pair_stuck, pair_goes, too_few, too_many, giving, give_one}
use Rattle.jz_run_assign.proofs.calling.give_all.Goals as goal

pub returns-in-None : goal.returns-in-None
returns-in-None c =
    too_few (giving c.args.span (store_of c.args.inner.now)) (give_one (store_of c.args.inner.now)) (λ x y xs ys t. refl) c.args.to.now c.args.results.now c.loop-i.i c.loop-i.out (state_of c.loop-i.state) _ c.loop-i.invariant c.left-item.result c.missing.result (record { span = c.args.span; why = Init }) c.missing.ensures (λ x xs. refl) (search rules) (search rules)
    (sym c.get.ensures.value ∙ ap option_copied c.in-None.is)

pub returns-in_err-give-in-Some : goal.returns-in_err-give-in-Some
returns-in_err-give-in-Some c =
    let inner = store_of c.args.inner.now in
    let ns = c.loop-i.out in
    let ms = c.give.new.out in
    let t = state_of c.give.new.state in
    let d = c.left-item.result in
    let x = c.in-Some.from.now in
    let whole = numbers_first c.args.out.now (all_given c.args.span c.args.to.now c.args.results.now inner (state_of c.args.state.now)) in
    handed_on c.from_residual.result c.in_err-give-in-Some.field-0.0 (λ r. changed ms t r ≡ numbers_first ns (give_one inner d x (state_of c.loop-i.state)))
    (λ r. changed ms t r ≡ whole) c.from_residual.ensures.1 c.in_err-give-in-Some.ensures
    (λ k h. pair_stuck (giving c.args.span (store_of c.args.inner.now)) (give_one (store_of c.args.inner.now)) (λ x y xs ys t. refl) c.args.to.now c.args.results.now c.loop-i.i c.loop-i.out (state_of c.loop-i.state) whole c.loop-i.invariant d x k (search rules) (search rules) (sym c.get.ensures.value ∙ ap option_copied c.in-Some.is) h)

pub loop-i-preserved : goal.loop-i-preserved
loop-i-preserved c =
    pair_goes (giving c.args.span (store_of c.args.inner.now)) (give_one (store_of c.args.inner.now)) (λ x y xs ys t. refl) c.args.to.now c.args.results.now c.loop-i.i c.loop-i.out (state_of c.loop-i.state) _ c.loop-i.invariant c.left-item.result c.in-Some.from.now c.give.new.out (state_of c.give.new.state) (search rules) (search rules)
    (sym c.get.ensures.value ∙ ap option_copied c.in-Some.is) c.in_ok-give-in-Some.ensures

pub returns-then-len : goal.returns-then-len
returns-then-len c =
    too_many (giving c.args.span (store_of c.args.inner.now)) (give_one (store_of c.args.inner.now)) (λ x y xs ys t. refl) c.args.to.now c.args.results.now c.loop-i.i c.loop-i.out (state_of c.loop-i.state) _ c.loop-i.invariant c.missing-then-len.result (record { span = c.args.span; why = Init }) c.missing-then-len.ensures (λ y ys. refl) (search rules) (search rules)
