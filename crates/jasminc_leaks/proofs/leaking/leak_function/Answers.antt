use Rattle.std.proofs.Common.{◌≡◌, ◌<◌, ◌^◌, ℕ, List, length, subst}
use Rattle.std.specs.Prelude.{Some, slice_get}
use Rattle.jz_tree.specs.declared.program.Program.{Program}
use Rattle.jasminc_calls.proofs.Parameters.{none_refused}
use Rattle.jasminc_leaks.proofs.Showing.{runnable_at, ready, refused_too}
use Rattle.jasminc_leaks.proofs.leaking.leak_function.Goals as goal

pub called_on-requires : goal.called_on-requires
called_on-requires c =
    let p = c.args.typed.now.program in
    let f = c.function_at-function.result.now in
    let there = subst (λ (q : Program). slice_get q.funs c.args.place ≡ Some f) c.program-tree.ensures c.function_at-function.ensures in
    let known = runnable_at p c.args.place c.args.compiled.now c.requires.runnable f there in
    none_refused p f known.is_export

pub leaked-requires-clause-ready : goal.leaked-requires-clause-ready
leaked-requires-clause-ready c =
    let p = c.args.typed.now.program in
    let f = c.function_at-function.result.now in
    let there = subst (λ (q : Program). slice_get q.funs c.args.place ≡ Some f) c.program-tree.ensures c.function_at-function.ensures in
    let short = subst (λ (bs : List ℕ). length bs < 2 ^ 63) c.as_slice.ensures c.is_short.ensures in
    ready p c.args.place c.args.compiled.now c.args.items.now c.in-Ok.called c.requires.runnable f there c.requires.given short c.in-Ok.ensures

pub returns-in-Err : goal.returns-in-Err
returns-in-Err c =
    let p = c.args.typed.now.program in
    let f = c.function_at-function.result.now in
    let there = subst (λ (q : Program). slice_get q.funs c.args.place ≡ Some f) c.program-tree.ensures c.function_at-function.ensures in
    refused_too p c.args.place c.args.compiled.now c.args.items.now c.args.fuel f there _ c.in-Err.ensures
