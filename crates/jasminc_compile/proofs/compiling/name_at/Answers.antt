use Rattle.std.proofs.Common.{◌≡◌, ◌<◌, length, sym, subst, rules}
use Rattle.std.specs.Prelude.{Some, slice_get}
use Rattle.jz_tree.specs.declared.program.Program.{Program}
use Rattle.jasminc_check.proofs.ExpansionsReadying.{ready_below}
use Rattle.jasminc_compile.proofs.compiling.name_at.Goals as goal

pub function_at-function-requires : goal.function_at-function-requires
function_at-function-requires c =
    subst (λ (q : Program). c.args.place < length q.funs) (sym c.program.ensures) (ready_below c.args.typed.now.program c.args.place c.requires)

pub returns : goal.returns
returns c =
    let f = c.function_at-function.result.now in
    let there = subst (λ (q : Program). slice_get q.funs c.args.place ≡ Some f) c.program.ensures c.function_at-function.ensures in
    let same : c.in_ok-name.name ≡ f.name = search rules in
    (f, there, same)
