use Rattle.std.proofs.Common.{◌≡◌, [], ap, sym, ◌∙◌}
use Rattle.std.specs.Prelude.{option_map}
use Rattle.jz_tree.specs.declared.stmt.Lval.TheVariants as lval
use Rattle.jz_meaning.specs.Rules.{stuck, went}
use Rattle.jz_meaning.specs.Attempts.{changed, numbers_first}
use Rattle.jz_meaning.specs.States.{as_value}
use Rattle.jz_meaning.specs.Stores.{state_of, store_of}
use Rattle.jz_meaning.specs.Values.{ref_of}
use Rattle.jz_meaning.specs.Assignments.{held}
use Rattle.jz_meaning.proofs.AttemptLemmas.{becomes_refusal}
use Rattle.jz_run_assign.specs.InnerParts.{variable_written}
use Rattle.jz_run_assign.proofs.Writing as writing
use Rattle.jz_run_assign.proofs.Writing.{gives, gets_stuck}
use Rattle.jz_run_assign.proofs.left.write_variable.Goals as goal

pub returns-in_err-value-in-Some : goal.returns-in_err-value-in-Some
returns-in_err-value-in-Some c =
    let var = c.args.var.now in
    let x = ref_of var in
    let v = as_value c.in-Some.value in
    let s = state_of c.args.state.now in
    let k = c.in_err-value-in-Some.field-0.0 in
    let e : held x.span x.kind v ≡ stuck k =
    ap (λ a. held a x.kind v) (sym c.var_span.ensures) ∙ ap (λ j. held c.var_span.result j v) (sym c.kind_of.ensures)
    ∙ gets_stuck (held c.var_span.result c.kind_of.result v) k c.in_err-value-in-Some.ensures
    in
    λ ns. becomes_refusal c.from_residual-in_err-value-in-Some.result k (λ r. changed ns s r ≡ numbers_first ns (variable_written var (option_map as_value c.args.value) s)) c.from_residual-in_err-value-in-Some.ensures.1
    (writing.variable_stuck s ns var v k e ∙ ap (λ u. numbers_first ns (variable_written var (option_map as_value u) s)) (sym c.in-Some.is))

pub returns-in_ok-set-in-Some : goal.returns-in_ok-set-in-Some
returns-in_ok-set-in-Some c =
    let var = c.args.var.now in
    let x = ref_of var in
    let v = as_value c.in-Some.value in
    let s = state_of c.args.state.now in
    let h = as_value c.in_ok-value-in-Some.value in
    let e : held x.span x.kind v ≡ went [] h =
    ap (λ a. held a x.kind v) (sym c.var_span.ensures) ∙ ap (λ j. held c.var_span.result j v) (sym c.kind_of.ensures)
    ∙ gives (held c.var_span.result c.kind_of.result v) h c.in_ok-value-in-Some.ensures
    in
    λ ns. writing.variable_written s ns var v h (store_of c.set-in-Some.new.store) e c.in_ok-set-in-Some.ensures ∙ ap (λ u. numbers_first ns (variable_written var (option_map as_value u) s)) (sym c.in-Some.is)
