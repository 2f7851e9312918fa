use Rattle.std.proofs.Common.{◌≡◌, Some, ap, ◌∙◌}
use Rattle.jz_meaning.specs.Rules.{stuck}
use Rattle.jz_meaning.specs.Assignments.{written}
use Rattle.jz_meaning.specs.Attempts.{changed, numbers_first}
use Rattle.jz_meaning.specs.States.{as_value}
use Rattle.jz_meaning.specs.Stores.{state_of, store_of}
use Rattle.jz_meaning.specs.Values.{ref_of, size_of, variable_value}
use Rattle.jz_meaning.proofs.AttemptLemmas.{stuck_then, gone_then, handed_on, becomes_refusal}
use Rattle.jz_run_assign.specs.InnerCalls.{value_given}
use Rattle.jz_run_assign.proofs.calling.give_value.Goals as goal

pub returns-in_err-value : goal.returns-in_err-value
returns-in_err-value c =
    let ns = c.args.out.now in
    let s = state_of c.args.state.now in
    let inner = store_of c.args.inner.now in
    let k = c.in_err-value.field-0.0 in
    becomes_refusal c.from_residual.result k (λ r. changed ns s r ≡ numbers_first ns (value_given c.args.kind c.args.to.now c.args.from.now inner s)) c.from_residual.ensures.1
    (stuck_then ns (variable_value (ref_of c.args.from.now) inner) (λ v. written (size_of c.args.kind) c.args.to.now (Some v) s) k (c.in_err-value.ensures ns))

pub returns-in_err-write : goal.returns-in_err-write
returns-in_err-write c =
    let ns = c.args.out.now in
    let ms = c.write.new.out in
    let s = state_of c.args.state.now in
    let t = state_of c.write.new.state in
    let inner = store_of c.args.inner.now in
    let d = c.args.to.now in
    let v = as_value c.in_ok-value.value in
    handed_on c.from_residual-in_err-write.result c.in_err-write.field-0.0 (λ r. changed ms t r ≡ numbers_first ns (written c.size_of.result d (Some v) s))
    (λ r. changed ms t r ≡ numbers_first ns (value_given c.args.kind d c.args.from.now inner s)) c.from_residual-in_err-write.ensures.1 c.in_err-write.ensures
    (λ k h. gone_then ns ns (variable_value (ref_of c.args.from.now) inner) (λ u. written (size_of c.args.kind) d (Some u) s) v (stuck k) (c.in_ok-value.ensures ns) (h ∙ ap (λ z. numbers_first ns (written z d (Some v) s)) c.size_of.ensures))

pub returns : goal.returns
returns c =
    let ns = c.args.out.now in
    let s = state_of c.args.state.now in
    let d = c.args.to.now in
    let v = as_value c.in_ok-value.value in
    gone_then ns ns (variable_value (ref_of c.args.from.now) (store_of c.args.inner.now)) (λ u. written (size_of c.args.kind) d (Some u) s) v _ (c.in_ok-value.ensures ns)
    (c.in_ok-write.ensures ∙ ap (λ z. numbers_first ns (written z d (Some v) s)) c.size_of.ensures)
