use Rattle.std.proofs.Common.{◌≡◌, ap, ◌∙◌, rules}
use Rattle.std.specs.Prelude.{Some}
use Rattle.jz_meaning.specs.Attempts.{did, changed, numbers_first}
use Rattle.jz_meaning.specs.Stores.{state_of}
use Rattle.jz_meaning.specs.Intrinsics.{intrinsic_size, sized_results, instruction_done}
use Rattle.jz_meaning.specs.Assignments.{all_written}
use Rattle.jz_run_assign.specs.Answers.{meant_results, results_in}
use Rattle.jz_meaning.proofs.AttemptLemmas.{handed_on}
use Rattle.jz_run_instruct.proofs.Writing.{results_refused, results_written}
use Rattle.jz_run_instruct.proofs.instructing.instruct_by.Goals as goal

pub returns-in_err-results : goal.returns-in_err-results
returns-in_err-results c =
    handed_on c.from_residual.result c.in_err-results.field-0.0
    (λ r. did c.results_of.new.out (results_in r) ≡ numbers_first c.args.out.now (sized_results c.args.instance.name c.args.span c.intrinsic_size-size.result c.as_slice-operands.result.now (state_of c.args.state.now)))
    (λ r. changed c.results_of.new.out (state_of c.args.state.now) r ≡ numbers_first c.args.out.now (instruction_done (Some c.args.instance) c.args.to.now c.args.operands.now c.args.span (state_of c.args.state.now)))
    c.from_residual.ensures.1 c.in_err-results.ensures
    (λ k h. results_refused c.args.out.now c.results_of.new.out c.args.span c.intrinsic_size-size.result
    (intrinsic_size c.args.instance.name c.args.instance.size c.args.to.now c.args.operands.now) c.args.to.now (state_of c.args.state.now)
    (λ z. sized_results c.args.instance.name c.args.span z c.args.operands.now (state_of c.args.state.now)) (search rules) k
    (h ∙ ap (λ es. numbers_first c.args.out.now (sized_results c.args.instance.name c.args.span c.intrinsic_size-size.result es (state_of c.args.state.now))) c.as_slice-operands.ensures))

pub returns-in_err-write_all : goal.returns-in_err-write_all
returns-in_err-write_all c =
    handed_on c.from_residual-in_err-write_all.result c.in_err-write_all.field-0.0
    (λ r. changed c.write_all.new.out (state_of c.write_all.new.state) r ≡ numbers_first c.results_of.new.out (all_written c.args.span c.intrinsic_size-size.result c.args.to.now (meant_results c.as_slice.result.now) (state_of c.args.state.now)))
    (λ r. changed c.write_all.new.out (state_of c.write_all.new.state) r ≡ numbers_first c.args.out.now (instruction_done (Some c.args.instance) c.args.to.now c.args.operands.now c.args.span (state_of c.args.state.now)))
    c.from_residual-in_err-write_all.ensures.1 c.in_err-write_all.ensures
    (λ k h. results_written c.args.out.now c.results_of.new.out c.args.span c.intrinsic_size-size.result
    (intrinsic_size c.args.instance.name c.args.instance.size c.args.to.now c.args.operands.now) c.args.to.now (state_of c.args.state.now)
    (λ z. sized_results c.args.instance.name c.args.span z c.args.operands.now (state_of c.args.state.now)) (search rules)
    c.in_ok-results.results c.as_slice.result.now _ (search rules)
    (c.in_ok-results.ensures ∙ ap (λ es. numbers_first c.args.out.now (sized_results c.args.instance.name c.args.span c.intrinsic_size-size.result es (state_of c.args.state.now))) c.as_slice-operands.ensures) h)

pub returns : goal.returns
returns c =
    results_written c.args.out.now c.results_of.new.out c.args.span c.intrinsic_size-size.result
    (intrinsic_size c.args.instance.name c.args.instance.size c.args.to.now c.args.operands.now) c.args.to.now (state_of c.args.state.now)
    (λ z. sized_results c.args.instance.name c.args.span z c.args.operands.now (state_of c.args.state.now)) (search rules)
    c.in_ok-results.results c.as_slice.result.now _ (search rules)
    (c.in_ok-results.ensures ∙ ap (λ es. numbers_first c.args.out.now (sized_results c.args.instance.name c.args.span c.intrinsic_size-size.result es (state_of c.args.state.now))) c.as_slice-operands.ensures) c.in_ok-write_all.ensures
