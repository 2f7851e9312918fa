use Rattle.std.proofs.Common.{◌≡◌, subst}
use Rattle.std.specs.Prelude.{Some, slice_get}
use Rattle.std.proofs.lemmas.Result.{IfOk-weaker}
use Rattle.jz_tree.specs.declared.program.Program.{Program}
use Rattle.jz_meaning.specs.Runs.{FunOutcome}
use Rattle.jz_interp.specs.Outcomes.{Shows}
use Rattle.jasminc_interp.specs.Telling.{Tells}
use Rattle.jasminc_interp.specs.InnerRuns.{RunsAt}
use Rattle.jasminc_interp.proofs.Readying.{all_held, below_end, pres_so, takes, run_told}
use Rattle.jasminc_interp.proofs.running.run.Goals as goal

pub memory_of-requires : goal.memory_of-requires
memory_of-requires c =
    let p = c.args.typed.now.program in
    let there = subst (λ (q : Program). slice_get q.funs c.args.place ≡ Some c.function_at-function.result.now) c.program-tree.ensures c.function_at-function.ensures in
    all_held p c.args.place c.args.items.now c.args.called c.requires.ready c.function_at-function.result.now there

pub interpret-requires : goal.interpret-requires
interpret-requires c =
    let p = c.args.typed.now.program in
    let there = subst (λ (q : Program). slice_get q.funs c.args.place ≡ Some c.function_at-function.result.now) c.program-tree.ensures c.function_at-function.ensures in
    takes p c.args.place c.args.items.now c.args.called c.requires.ready c.function_at-function.result.now there

pub tell-requires-clause-pres : goal.tell-requires-clause-pres
tell-requires-clause-pres c =
    let p = c.args.typed.now.program in
    let there = subst (λ (q : Program). slice_get q.funs c.args.place ≡ Some c.function_at-function.result.now) c.program-tree.ensures c.function_at-function.ensures in
    pres_so p c.args.place c.args.items.now c.args.called c.requires.ready c.function_at-function.result.now there

pub tell-requires-clause-below_end : goal.tell-requires-clause-below_end
tell-requires-clause-below_end c =
    let p = c.args.typed.now.program in
    let there = subst (λ (q : Program). slice_get q.funs c.args.place ≡ Some c.function_at-function.result.now) c.program-tree.ensures c.function_at-function.ensures in
    below_end p c.args.place c.args.items.now c.args.called c.requires.ready c.function_at-function.result.now there

pub returns : goal.returns
returns c =
    let p = c.args.typed.now.program in
    let f = c.function_at-function.result.now in
    let there = subst (λ (q : Program). slice_get q.funs c.args.place ≡ Some f) c.program-tree.ensures c.function_at-function.ensures in
    let outcome = c.in_ok-outcome.outcome in
    IfOk-weaker c.tell.result (λ x. (out : FunOutcome) → Shows out outcome → Tells f c.args.called.bits c.args.fuel out x) (RunsAt p c.args.place c.args.items.now c.args.fuel)
    (λ x told. run_told p c.args.place c.args.items.now c.args.called c.requires.ready f there c.in_ok-mem.mem c.args.fuel outcome x c.in_ok-mem.ensures c.in_ok-outcome.ensures told)
    c.tell.ensures
