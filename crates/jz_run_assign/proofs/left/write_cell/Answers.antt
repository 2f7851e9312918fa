use Rattle.std.proofs.Common.{◌≡◌, [], ap, sym, ◌∙◌, Option}
use Rattle.std.specs.Prelude.{option_map}
use Rattle.jz_words.specs.declared.size.Size.{Size}
use Rattle.jz_meaning.specs.Rules.{stuck, went}
use Rattle.jz_meaning.specs.Attempts.{changed, numbers_first}
use Rattle.jz_meaning.specs.States.{as_value}
use Rattle.jz_meaning.specs.Stores.{state_of, store_of}
use Rattle.jz_meaning.specs.Values.{ref_of}
use Rattle.jz_meaning.specs.Assignments.{word_value, in_cell}
use Rattle.jz_meaning.proofs.AttemptLemmas.{becomes_refusal}
use Rattle.jz_run_assign.proofs.Writing.{gives, gets_stuck, cell_put, cell_not_put}
use Rattle.jz_run_assign.proofs.left.write_cell.Goals as goal

pub returns-in_err-value-in-Some-value : goal.returns-in_err-value-in-Some-value
returns-in_err-value-in-Some-value c =
    let x = ref_of c.args.var.now in
    let z = c.in-Some.size in
    let v = as_value c.in-Some-value.value in
    let i = c.args.index in
    let s = state_of c.args.state.now in
    let k = c.in_err-value-in-Some-value.field-0.0 in
    let e : word_value x.span z v ≡ stuck k = ap (λ a. word_value a z v) (sym c.var_span.ensures) ∙ gets_stuck (word_value c.var_span.result z v) k c.in_err-value-in-Some-value.ensures in
    λ ns. becomes_refusal c.from_residual.result k (λ r. changed ns s r ≡ numbers_first ns (in_cell x i c.args.size (option_map as_value c.args.value) s)) c.from_residual.ensures.1
    (rw (c.in-Some.is, c.in-Some-value.is) (cell_not_put s ns x i z v k e))

pub returns-in_ok-put_cell-in-Some-value : goal.returns-in_ok-put_cell-in-Some-value
returns-in_ok-put_cell-in-Some-value c =
    let x = ref_of c.args.var.now in
    let z = c.in-Some.size in
    let v = as_value c.in-Some-value.value in
    let s = state_of c.args.state.now in
    let h = as_value c.in_ok-value-in-Some-value.value in
    let e : word_value x.span z v ≡ went [] h = ap (λ a. word_value a z v) (sym c.var_span.ensures) ∙ gives (word_value c.var_span.result z v) h c.in_ok-value-in-Some-value.ensures in
    λ ns. rw (c.in-Some.is, c.in-Some-value.is) (cell_put s ns x c.args.index z v h (store_of c.put_cell.new.store) e c.in_ok-put_cell-in-Some-value.ensures)
