use Rattle.std.proofs.Common.{◌≡◌, ◌∙◌, [], true, false, refl, ap, sym, subst}
use Rattle.std.specs.Prelude.{not}
use Rattle.std.specs.List.{list_all}
use Rattle.jz_tree.specs.declared.program.Fun.{Fun}
use Rattle.jz_type_names.specs.Scopes.{variables_of}
use Rattle.jz_meaning.specs.Trees.{done}
use Rattle.jz_meaning.specs.Runs.{block}
use Rattle.jz_change.specs.Views.{change_of}
use Rattle.jz_change.proofs.StepViews.{change_is}
use Rattle.jz_pass.specs.Unrolling.{Unrolls}
use Rattle.jz_unroll.specs.Unrolling.{marked_vars, unrolling}
use Rattle.jz_unroll.specs.Values.{is_inline_var}
use Rattle.jz_unrolling_values.specs.InlineNames.{names_in, inline_names}
use Rattle.jz_unrolling_values.specs.Numbers.{no_numbers, numbers_in}
use Rattle.jz_unrolling_values.proofs.RefusalLemmas.{handed_refusal}
use Rattle.jz_unrolling.specs.Refusals.{NeverFits}
use Rattle.jz_unrolling.specs.Steps.{no_callees, Adds, Becomes}
use Rattle.jz_unrolling.specs.Unrolled.{IsUnrolled, KeepsHead}
use Rattle.jz_unrolling.proofs.Becoming.{alone}
use Rattle.jz_unrolling.proofs.functions.unroll_function.Goals as goal

pub returns-clause-body : goal.returns-clause-body
returns-clause-body c =
    let f : Fun = c.args.fun.now in
    let names = inline_names (variables_of f) in
    let start = c.new-known.result in
    let end = c.unroll_all.new.known in
    let made = c.unroll_all.new.out in
    let steps = c.in_ok-steps.steps in
    let adds : Adds names (block no_callees f.body) start end [] made steps =
    subst (λ l. Adds names (block no_callees f.body) start end l made steps) c.new-body.ensures
    (subst (λ n. Adds n (block no_callees f.body) start end c.new-body.result made steps) c.in_ok-vars.ensures.names c.in_ok-steps.ensures)
    in
    let becomes : Becomes names (block no_callees f.body) no_numbers made (numbers_in end) steps =
    subst (λ e. Becomes names (block no_callees f.body) e made (numbers_in end) steps) c.new-known.ensures.numbers
    (subst (λ m. Becomes names (block no_callees f.body) (numbers_in start) m (numbers_in end) steps) (sym adds.added) adds.becomes)
    in
    let g : Fun = record f { vars = marked_vars (names_in c.in_ok-vars.vars) f.vars; body = made } in
    let so : IsUnrolled f g (change_of (record { steps = steps })) = record {
      behind = numbers_in end;
      body =
          subst (λ k. Unrolls (unrolling names) (block no_callees f.body done) no_numbers done (block no_callees made done) (numbers_in end) k)
          (sym (change_is (record { steps = steps })))
          (alone names (block no_callees f.body) no_numbers (numbers_in end) made steps done becomes);
    }
    in
    subst (λ h. IsUnrolled f h (change_of (record { steps = steps }))) (sym c.in_ok-program.ensures) so

pub returns-clause-head : goal.returns-clause-head
returns-clause-head c =
    let f : Fun = c.args.fun.now in
    let g : Fun = record f { vars = marked_vars (names_in c.in_ok-vars.vars) f.vars; body = c.unroll_all.new.out } in
    let so : KeepsHead f g = record {
      notes = refl;
      kind = refl;
      name = refl;
      span = refl;
      params = refl;
      rets = refl;
      result = refl;
      vars = ap (λ n. marked_vars n f.vars) c.in_ok-vars.ensures.names;
    }
    in
    subst (λ h. KeepsHead f h) (sym c.in_ok-program.ensures) so

pub returns-clause-plain : goal.returns-clause-plain
returns-clause-plain c =
    let f : Fun = c.args.fun.now in
    subst (λ n. list_all (λ v. not (is_inline_var n v)) f.result ≡ true) c.in_ok-vars.ensures.names c.in_ok-ask_results.ensures

pub returns-in_err-ask_results-clause-refused : goal.returns-in_err-ask_results-clause-refused
returns-in_err-ask_results-clause-refused c =
    let f : Fun = c.args.fun.now in
    handed_refusal _ c.from_residual-in_err-ask_results.result c.in_err-ask_results.field-0.0 c.from_residual-in_err-ask_results.ensures.1 c.in_err-ask_results.ensures
    (λ fails u.
    let q : true ≡ false = sym u.plain ∙ subst (λ n. list_all (λ v. not (is_inline_var n v)) f.result ≡ false) c.in_ok-vars.ensures.names fails in
    absurd cc)

pub returns-in_err-steps-clause-refused : goal.returns-in_err-steps-clause-refused
returns-in_err-steps-clause-refused c =
    let f : Fun = c.args.fun.now in
    let names = inline_names (variables_of f) in
    handed_refusal _ c.from_residual-in_err-steps.result c.in_err-steps.field-0.0 c.from_residual-in_err-steps.ensures.1 c.in_err-steps.ensures
    (λ fails u.
    let never : NeverFits names (block no_callees f.body) no_numbers =
    subst (λ e. NeverFits names (block no_callees f.body) e) c.new-known.ensures.numbers
    (subst (λ n. NeverFits n (block no_callees f.body) (numbers_in c.new-known.result)) c.in_ok-vars.ensures.names fails)
    in
    never done u.behind u.fits)
