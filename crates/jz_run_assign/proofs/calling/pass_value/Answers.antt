use Rattle.std.proofs.Common.{◌≡◌, [], Some, ap, sym, ◌∙◌}
use Rattle.jz_meaning.specs.Rules.{stuck, went}
use Rattle.jz_meaning.specs.Assignments.{held}
use Rattle.jz_meaning.specs.Attempts.{Evaluation, changed, numbers_first}
use Rattle.jz_meaning.specs.States.{Store, as_value, put}
use Rattle.jz_meaning.specs.Stores.{state_of, store_of}
use Rattle.jz_meaning.specs.Values.{key_of, ref_of, size_of, evaluated}
use Rattle.jz_meaning.proofs.AttemptLemmas.{becomes_refusal}
use Rattle.jz_run_assign.specs.InnerCalls.{value_passed}
use Rattle.jz_run_assign.proofs.ValueLemmas.{second_stuck, all_gone, span_is}
use Rattle.jz_run_assign.proofs.calling.pass_value.Goals as goal

pub returns-in_err-value-2 : goal.returns-in_err-value-2
returns-in_err-value-2 c =
    let s = state_of c.args.state.now in
    let ns = c.args.out.now in
    let ms = c.evaluate.new.out in
    let e = c.args.arg.now in
    let x = ref_of c.args.param.now in
    let kind = c.args.kind in
    let v = as_value c.in_ok-value.value in
    let inner = store_of c.args.inner.now in
    let k = c.in_err-value-2.field-0.0 in
    let value : went ms v ≡ numbers_first ns (evaluated e (size_of kind) s) = c.in_ok-value.ensures ∙ ap (λ z. numbers_first ns (evaluated e z s)) c.size_of.ensures in
    becomes_refusal c.from_residual-in_err-value-2.result k (λ r. changed ms inner r ≡ numbers_first ns (value_passed kind c.args.param.now e s inner)) c.from_residual-in_err-value-2.ensures.1
    (second_stuck ns ms (evaluated e (size_of kind) s) (held x.span kind) (λ h. went [] (put inner (key_of x) (Some h))) v value
    k (c.in_err-value-2.ensures ms ∙ ap (λ z. numbers_first ms (held z kind v)) (span_is c.args.param.now)))

pub returns : goal.returns
returns c =
    let s = state_of c.args.state.now in
    let ns = c.args.out.now in
    let ms = c.evaluate.new.out in
    let e = c.args.arg.now in
    let x = ref_of c.args.param.now in
    let kind = c.args.kind in
    let v = as_value c.in_ok-value.value in
    let value : went ms v ≡ numbers_first ns (evaluated e (size_of kind) s) = c.in_ok-value.ensures ∙ ap (λ z. numbers_first ns (evaluated e z s)) c.size_of.ensures in
    all_gone ns ms (evaluated e (size_of kind) s) (held x.span kind) (λ h. went [] (put (store_of c.args.inner.now) (key_of x) (Some h))) v value
    (as_value c.in_ok-value-2.value) (store_of c.set.new.store) (c.in_ok-value-2.ensures ms ∙ ap (λ z. numbers_first ms (held z kind v)) (span_is c.args.param.now))
    (ap (λ z. let w : Evaluation Store = went [] z in w) c.in_ok-set.ensures)
