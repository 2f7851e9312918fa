use Rattle.std.proofs.Common.{subst, sym}
use Rattle.std.specs.Prelude.{Result}
use Rattle.std.proofs.lemmas.Option.{slice_get_within}
use Rattle.jz_tree.specs.Failure.{Failure}
use Rattle.jz_tree.specs.Failures.{IfAnswered}
use Rattle.jasminc_runs.specs.declared.telling.Ran.{Ran}
use Rattle.jasminc_called.specs.declared.refused.Refused.{Refused}
use Rattle.jasminc_called.specs.Answers.{Leaks}
use Rattle.jasminc_called.specs.Calls.{CallAnswers}
use Rattle.jasminc_called.proofs.Named.{runnable_at}
use Rattle.jasminc_called.proofs.Answering.{leak_answers}
use Rattle.jasminc_called.proofs.calling.leak_made.Goals as goal

pub compiled_for-compiled-requires : goal.compiled_for-compiled-requires
compiled_for-compiled-requires c = c.requires.made

pub leak_function-answer-requires-clause-there : goal.leak_function-answer-requires-clause-there
leak_function-answer-requires-clause-there c =
    let m = c.args.made.now in
    let h = c.requires.made.1 in
    slice_get_within m.typed.program.funs m.place h.function h.there

pub leak_function-answer-requires-clause-given : goal.leak_function-answer-requires-clause-given
leak_function-answer-requires-clause-given c = c.requires.given

pub leak_function-answer-requires-clause-runnable : goal.leak_function-answer-requires-clause-runnable
leak_function-answer-requires-clause-runnable c =
    runnable_at c.requires.made.0 c.args.fun.now c.args.made.now c.requires.made.1 c.compiled_for-compiled.result.now c.compiled_for-compiled.ensures

pub returns : goal.returns
returns c =
    let m = c.args.made.now in
    subst (λ (r : Result Ran (Failure Refused)). IfAnswered r (CallAnswers (Leaks c.args.items.now c.args.fuel) c.args.fun.now c.args.items.now m)) (sym c.as_refusal.ensures)
    (leak_answers c.requires.made.0 c.args.fun.now m c.requires.made.1 c.args.items.now c.compiled_for-compiled.result.now c.compiled_for-compiled.ensures c.args.fuel
    c.leak_function-answer.result c.leak_function-answer.ensures)
