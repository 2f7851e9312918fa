use Rattle.std.proofs.Common.{◌≡◌, sym, subst}
use Rattle.std.specs.Prelude.{Some, Err, slice_get}
use Rattle.jz_tree.specs.Failure.{Failure}
use Rattle.jz_tree.specs.Failures.{IfAnswered}
use Rattle.jz_tree.specs.declared.program.Program.{Program}
use Rattle.jasminc_interp.specs.declared.refused.Refused.{Refused}
use Rattle.jasminc_interp.specs.declared.telling.Ran.{Ran}
use Rattle.jasminc_interp.specs.InnerRuns.{FunctionAnswers}
use Rattle.jasminc_interp.proofs.Readying.{asks_well, unfit_at, ready, ran_at}
use Rattle.jasminc_interp.proofs.running.run_function.Goals as goal

pub called_on-requires : goal.called_on-requires
called_on-requires c =
    let p = c.args.typed.now.program in
    let there = subst (λ (q : Program). slice_get q.funs c.args.place ≡ Some c.function_at-function.result.now) c.program-tree.ensures c.function_at-function.ensures in
    asks_well p c.args.place c.requires.exported c.function_at-function.result.now there

pub run-requires-clause-ready : goal.run-requires-clause-ready
run-requires-clause-ready c =
    let p = c.args.typed.now.program in
    let f = c.function_at-function.result.now in
    let there = subst (λ (q : Program). slice_get q.funs c.args.place ≡ Some f) c.program-tree.ensures c.function_at-function.ensures in
    ready p c.args.place c.requires.exported f there c.args.items.now c.in-Ok.called c.in-Ok.ensures

pub returns-in_ok-ran-in-Ok : goal.returns-in_ok-ran-in-Ok
returns-in_ok-ran-in-Ok c =
    let p = c.args.typed.now.program in
    let f = c.function_at-function.result.now in
    let there = subst (λ (q : Program). slice_get q.funs c.args.place ≡ Some f) c.program-tree.ensures c.function_at-function.ensures in
    ran_at p c.args.place c.requires.exported f there c.args.items.now c.in-Ok.called c.args.fuel c.in_ok-ran-in-Ok.ran c.in-Ok.ensures c.in_ok-ran-in-Ok.ensures

pub returns-in-Err : goal.returns-in-Err
returns-in-Err c =
    let p = c.args.typed.now.program in
    let f = c.function_at-function.result.now in
    let items = c.args.items.now in
    let there = subst (λ (q : Program). slice_get q.funs c.args.place ≡ Some f) c.program-tree.ensures c.function_at-function.ensures in
    subst (λ (e : Failure Refused). IfAnswered {A = Ran} (Err e) (FunctionAnswers p c.args.place items c.args.fuel)) (sym c.refusal_of.ensures)
    (unfit_at p c.args.place c.requires.exported f there items c.args.fuel _ c.in-Err.ensures)
