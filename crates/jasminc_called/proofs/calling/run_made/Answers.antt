use Rattle.std.proofs.Common.{◌≡◌, ◌<◌, length, subst, sym}
use Rattle.std.specs.Prelude.{Some, Result, slice_get}
use Rattle.std.proofs.lemmas.Option.{slice_get_within}
use Rattle.jz_tree.specs.Failure.{Failure}
use Rattle.jz_tree.specs.Failures.{IfAnswered}
use Rattle.jz_tree.specs.declared.program.Program.{Program}
use Rattle.jasminc_runs.specs.declared.telling.Ran.{Ran}
use Rattle.jasminc_called.specs.declared.refused.Refused.{Refused}
use Rattle.jasminc_called.specs.Answers.{Executes}
use Rattle.jasminc_called.specs.Calls.{CallAnswers}
use Rattle.jasminc_called.proofs.Named.{runnable_there}
use Rattle.jasminc_called.proofs.Answering.{run_answers}
use Rattle.jasminc_called.proofs.calling.run_made.Goals as goal

pub function_at-function-requires : goal.function_at-function-requires
function_at-function-requires c =
    let m = c.args.made.now in
    let h = c.requires.made.1 in
    let p = m.typed.program in
    subst (λ (q : Program). m.place < length q.funs) (sym c.program-tree.ensures) (slice_get_within p.funs m.place h.function h.there)

pub compiled_for-compiled-requires : goal.compiled_for-compiled-requires
compiled_for-compiled-requires c = c.requires.made

pub run_function-answer-requires-clause-given : goal.run_function-answer-requires-clause-given
run_function-answer-requires-clause-given c = c.requires.given

pub run_function-answer-requires-clause-runnable : goal.run_function-answer-requires-clause-runnable
run_function-answer-requires-clause-runnable c =
    let m = c.args.made.now in
    let f = c.function_at-function.result.now in
    let there = subst (λ (q : Program). slice_get q.funs m.place ≡ Some f) c.program-tree.ensures c.function_at-function.ensures in
    runnable_there c.requires.made.0 c.args.fun.now m c.requires.made.1 f there c.compiled_for-compiled.result.now c.compiled_for-compiled.ensures

pub returns : goal.returns
returns c =
    let m = c.args.made.now in
    let f = c.function_at-function.result.now in
    let there = subst (λ (q : Program). slice_get q.funs m.place ≡ Some f) c.program-tree.ensures c.function_at-function.ensures in
    subst (λ (r : Result Ran (Failure Refused)). IfAnswered r (CallAnswers (Executes c.args.items.now c.args.fuel) c.args.fun.now c.args.items.now m)) (sym c.as_refusal.ensures)
    (run_answers c.requires.made.0 c.args.fun.now m c.requires.made.1 c.args.items.now c.compiled_for-compiled.result.now c.compiled_for-compiled.ensures c.args.fuel f there
    c.run_function-answer.result c.run_function-answer.ensures)
