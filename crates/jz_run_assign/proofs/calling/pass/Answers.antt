use Rattle.std.proofs.Common.{◌≡◌, ap, sym, ◌∙◌, rules}
use Rattle.jz_meaning.specs.Attempts.{changed, numbers_first}
use Rattle.jz_meaning.specs.Statements.{passed}
use Rattle.jz_meaning.specs.Stores.{state_of, store_of}
use Rattle.jz_meaning.specs.Values.{ref_of}
use Rattle.jz_meaning.proofs.AttemptLemmas.{handed_on}
use Rattle.jz_run_assign.specs.InnerCalls.{array_passed, value_passed, argument_passed}
use Rattle.jz_meaning.specs.CallLaws.{IsScalar}
use Rattle.jz_meaning.proofs.CallLemmas.{passed_value}
use Rattle.jz_run_assign.proofs.calling.pass.Goals as goal

pub returns-in_err-pass_array-in-Array : goal.returns-in_err-pass_array-in-Array
returns-in_err-pass_array-in-Array c =
    let ns = c.args.out.now in
    let x = c.args.param.now in
    let e = c.args.arg.now in
    let s = state_of c.args.state.now in
    let inner = store_of c.args.inner.now in
    let t = store_of c.pass_array.new.inner in
    handed_on c.from_residual.result c.in_err-pass_array-in-Array.field-0.0 (λ r. changed ns t r ≡ numbers_first ns (array_passed c.args.span c.in-Array.cells x e s.store inner))
    (λ r. changed ns t r ≡ numbers_first ns (argument_passed c.args.span x e s inner)) c.from_residual.ensures.1 (c.in_err-pass_array-in-Array.ensures ns)
    (λ k h. h ∙ ap (λ y. numbers_first ns (passed c.args.span y (ref_of x) e s inner)) (sym c.in-Array.is ∙ c.kind_of-kind.ensures))

pub returns-in_ok-pass_array-in-Array : goal.returns-in_ok-pass_array-in-Array
returns-in_ok-pass_array-in-Array c =
    let ns = c.args.out.now in
    c.in_ok-pass_array-in-Array.ensures ns
    ∙ ap (λ y. numbers_first ns (passed c.args.span y (ref_of c.args.param.now) c.args.arg.now (state_of c.args.state.now) (store_of c.args.inner.now))) (sym c.in-Array.is ∙ c.kind_of-kind.ensures)

pub returns-in_err-pass_value-in-Undeclared : goal.returns-in_err-pass_value-in-Undeclared
returns-in_err-pass_value-in-Undeclared c =
    let scalar : IsScalar c.kind_of-kind.result = search rules in
    let kind = c.kind_of-kind.result in
    let ns = c.args.out.now in
    let ms = c.pass_value.new.out in
    let x = c.args.param.now in
    let e = c.args.arg.now in
    let s = state_of c.args.state.now in
    let inner = store_of c.args.inner.now in
    let t = store_of c.pass_value.new.inner in
    handed_on c.from_residual-in_err-pass_value-in-Undeclared.result c.in_err-pass_value-in-Undeclared.field-0.0 (λ r. changed ms t r ≡ numbers_first ns (value_passed kind x e s inner))
    (λ r. changed ms t r ≡ numbers_first ns (argument_passed c.args.span x e s inner)) c.from_residual-in_err-pass_value-in-Undeclared.ensures.1 c.in_err-pass_value-in-Undeclared.ensures
    (λ k h. h ∙ ap (numbers_first ns) (sym (passed_value c.args.span kind (ref_of x) e s inner scalar) ∙ ap (λ y. passed c.args.span y (ref_of x) e s inner) c.kind_of-kind.ensures))

pub returns-in_ok-pass_value-in-Undeclared : goal.returns-in_ok-pass_value-in-Undeclared
returns-in_ok-pass_value-in-Undeclared c =
    let scalar : IsScalar c.kind_of-kind.result = search rules in
    let x = ref_of c.args.param.now in
    let e = c.args.arg.now in
    let s = state_of c.args.state.now in
    let inner = store_of c.args.inner.now in
    c.in_ok-pass_value-in-Undeclared.ensures
    ∙ ap (numbers_first c.args.out.now) (sym (passed_value c.args.span c.kind_of-kind.result x e s inner scalar) ∙ ap (λ y. passed c.args.span y x e s inner) c.kind_of-kind.ensures)
