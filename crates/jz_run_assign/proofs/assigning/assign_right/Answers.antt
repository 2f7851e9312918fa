use Rattle.std.proofs.Common.{◌≡◌}
use Rattle.jz_meaning.specs.Rules.{stuck}
use Rattle.jz_meaning.specs.Attempts.{changed, numbers_first}
use Rattle.jz_meaning.specs.Stores.{state_of}
use Rattle.jz_meaning.proofs.AttemptLemmas.{handed_on}
use Rattle.jz_run_assign.specs.Answers.{meant_results}
use Rattle.jz_run_assign.specs.InnerParts.{results_written, right_assigned}
use Rattle.jz_run_assign.specs.InnerRights.{right_side}
use Rattle.jz_run_assign.proofs.Writing.{assigned_goes}
use Rattle.jz_run_assign.proofs.assigning.assign_right.Goals as goal

pub returns-in_err-write_results : goal.returns-in_err-write_results
returns-in_err-write_results c =
    let a = c.args.assignment in
    let s = state_of c.args.state.now in
    let ns = c.args.out.now in
    let ms = c.results_of.new.out in
    let vs = meant_results c.in_ok-values.values in
    let e = right_side c.args.right in
    let z = c.assigned_size-size.result in
    let t = state_of c.write_results.new.state in
    handed_on c.from_residual-in_err-write_results.result c.in_err-write_results.field-0.0 (λ r. changed c.write_results.new.out t r ≡ numbers_first ms (results_written a z vs s))
    (λ r. changed c.write_results.new.out t r ≡ numbers_first ns (right_assigned a e s)) c.from_residual-in_err-write_results.ensures.1 c.in_err-write_results.ensures
    (λ k h. assigned_goes a.span z a.to.now e a.cond.now s ns ms vs (stuck k) c.assigned_size-size.ensures c.in_ok-values.ensures h)

pub returns : goal.returns
returns c =
    let a = c.args.assignment in
    assigned_goes a.span c.assigned_size-size.result a.to.now (right_side c.args.right) a.cond.now (state_of c.args.state.now) c.args.out.now c.results_of.new.out (meant_results c.in_ok-values.values) _ c.assigned_size-size.ensures
    c.in_ok-values.ensures c.in_ok-write_results.ensures
