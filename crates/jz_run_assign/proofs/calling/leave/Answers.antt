use Rattle.std.proofs.Common.{◌≡◌, ◌∙◌, ap}
use Rattle.jz_meaning.specs.Attempts.{changed, numbers_first}
use Rattle.jz_meaning.specs.States.{Store, State}
use Rattle.jz_meaning.specs.Statements.{all_given}
use Rattle.jz_meaning.specs.Stores.{state_of, store_of}
use Rattle.jz_meaning.proofs.AttemptLemmas.{handed_on}
use Rattle.jz_run_assign.specs.Passings.{left_by}
use Rattle.jz_run_assign.proofs.calling.leave.Goals as goal

pub returns-in_err-give_all : goal.returns-in_err-give_all
returns-in_err-give_all c =
    let call = c.args.call in
    let inner = store_of c.args.inner.now in
    let ns = c.args.out.now in
    let ms = c.give_all.new.out in
    let s = state_of c.args.state.now in
    let t = state_of c.give_all.new.state in
    let at : Store → State = λ store. record { store = store; memory = s.memory } in
    handed_on c.from_residual-in_err-give_all.result c.in_err-give_all.field-0.0 (λ r. changed ms t r ≡ numbers_first ns (all_given call.span call.to.now call.callee.now.result inner (at (store_of c.give_arrays_back.new.outer))))
    (λ r. changed ms t r ≡ numbers_first ns (left_by call inner s)) c.from_residual-in_err-give_all.ensures.1 c.in_err-give_all.ensures
    (λ k h. h ∙ ap (λ store. numbers_first ns (all_given call.span call.to.now call.callee.now.result inner (at store))) c.in_ok-give_arrays_back.ensures)

pub returns : goal.returns
returns c =
    let call = c.args.call in
    let inner = store_of c.args.inner.now in
    let ns = c.args.out.now in
    let s = state_of c.args.state.now in
    let at : Store → State = λ store. record { store = store; memory = s.memory } in
    c.in_ok-give_all.ensures ∙ ap (λ store. numbers_first ns (all_given call.span call.to.now call.callee.now.result inner (at store))) c.in_ok-give_arrays_back.ensures
