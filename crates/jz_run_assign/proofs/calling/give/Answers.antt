use Rattle.std.proofs.Common.{◌≡◌, sym, ◌∙◌, ap, rules}
use Rattle.jz_meaning.specs.Attempts.{changed, numbers_first}
use Rattle.jz_meaning.specs.Statements.{given}
use Rattle.jz_meaning.specs.Stores.{state_of, store_of}
use Rattle.jz_meaning.specs.Values.{ref_of}
use Rattle.jz_meaning.proofs.AttemptLemmas.{handed_on}
use Rattle.jz_run_assign.specs.InnerCalls.{value_given, result_given}
use Rattle.jz_meaning.specs.CallLaws.{IsScalar}
use Rattle.jz_run_assign.proofs.GivenLemmas.{IsKept, given_read}
use Rattle.jz_run_assign.proofs.calling.give.Goals as goal

pub returns-in_err-give_value-in-Undeclared : goal.returns-in_err-give_value-in-Undeclared
returns-in_err-give_value-in-Undeclared c =
    let kept : IsKept c.args.to.now = search rules in
    let scalar : IsScalar c.kind_of-kind.result = search rules in
    let kind = c.kind_of-kind.result in
    let x = c.args.from.now in
    let d = c.args.to.now in
    let inner = store_of c.args.inner.now in
    let s = state_of c.args.state.now in
    let ns = c.args.out.now in
    let ms = c.give_value.new.out in
    let t = state_of c.give_value.new.state in
    handed_on c.from_residual.result c.in_err-give_value-in-Undeclared.field-0.0 (λ r. changed ms t r ≡ numbers_first ns (value_given kind d x inner s))
    (λ r. changed ms t r ≡ numbers_first ns (result_given d x inner s)) c.from_residual.ensures.1 c.in_err-give_value-in-Undeclared.ensures
    (λ k h. h ∙ ap (numbers_first ns) (sym (given_read kind (ref_of x) d inner s kept scalar) ∙ ap (λ y. given y (ref_of x) d inner s) c.kind_of-kind.ensures))

pub returns-in_ok-give_value-in-Undeclared : goal.returns-in_ok-give_value-in-Undeclared
returns-in_ok-give_value-in-Undeclared c =
    let kept : IsKept c.args.to.now = search rules in
    let scalar : IsScalar c.kind_of-kind.result = search rules in
    let x = ref_of c.args.from.now in
    let inner = store_of c.args.inner.now in
    let s = state_of c.args.state.now in
    c.in_ok-give_value-in-Undeclared.ensures
    ∙ ap (numbers_first c.args.out.now) (sym (given_read c.kind_of-kind.result x c.args.to.now inner s kept scalar) ∙ ap (λ k. given k x c.args.to.now inner s) c.kind_of-kind.ensures)
