use Rattle.std.proofs.Common.{◌≡◌, subst}
use Rattle.std.specs.Prelude.{Some, slice_get}
use Rattle.std.proofs.lemmas.Result.{IfOk-weaker}
use Rattle.jz_tree.specs.declared.program.Program.{Program}
use Rattle.jz_meaning.specs.Runs.{FunOutcome}
use Rattle.jz_interp.specs.Outcomes.{Shows}
use Rattle.jasminc_calls.proofs.Suiting.{all_held, takes_so}
use Rattle.jasminc_leaks.specs.Leaking.{FitsOutcome, Tells, LeaksAt}
use Rattle.jasminc_leaks.proofs.Showing.{runnable, suits_so, fitting, leaks_at}
use Rattle.jasminc_leaks.proofs.leaking.leaked.Goals as goal

pub memory_of-requires : goal.memory_of-requires
memory_of-requires c =
    let p = c.args.typed.now.program in
    let f = c.function_at-function.result.now in
    let there = subst (λ (q : Program). slice_get q.funs c.args.place ≡ Some f) c.program-tree.ensures c.function_at-function.ensures in
    all_held f c.args.items.now c.args.called (suits_so p c.args.place c.args.compiled.now c.args.items.now c.args.called c.requires.ready f there)

pub interpret-requires : goal.interpret-requires
interpret-requires c =
    let p = c.args.typed.now.program in
    let f = c.function_at-function.result.now in
    let there = subst (λ (q : Program). slice_get q.funs c.args.place ≡ Some f) c.program-tree.ensures c.function_at-function.ensures in
    let known = runnable p c.args.place c.args.compiled.now c.args.items.now c.args.called c.requires.ready f there in
    takes_so f c.args.items.now c.args.called (suits_so p c.args.place c.args.compiled.now c.args.items.now c.args.called c.requires.ready f there) p known.is_export c.args.place there

pub shown-requires : goal.shown-requires
shown-requires c =
    let p = c.args.typed.now.program in
    let f = c.function_at-function.result.now in
    let there = subst (λ (q : Program). slice_get q.funs c.args.place ≡ Some f) c.program-tree.ensures c.function_at-function.ensures in
    fitting p c.args.place c.args.compiled.now c.args.items.now c.args.called c.requires.ready f there c.in_ok-mem.mem c.in_ok-mem.ensures c.args.fuel c.in_ok-outcome.outcome c.in_ok-outcome.ensures

pub returns : goal.returns
returns c =
    let p = c.args.typed.now.program in
    let f = c.function_at-function.result.now in
    let there = subst (λ (q : Program). slice_get q.funs c.args.place ≡ Some f) c.program-tree.ensures c.function_at-function.ensures in
    let outcome = c.in_ok-outcome.outcome in
    let tr = c.args.compiled.now.tr in
    IfOk-weaker c.shown.result (λ x. (out : FunOutcome) → Shows out outcome → FitsOutcome tr out → Tells tr c.args.fuel out x) (LeaksAt p c.args.place c.args.compiled.now c.args.items.now c.args.fuel)
    (λ x told. leaks_at p c.args.place c.args.compiled.now c.args.items.now c.args.called c.requires.ready f there c.in_ok-mem.mem c.in_ok-mem.ensures c.args.fuel outcome c.in_ok-outcome.ensures x told)
    c.shown.ensures
