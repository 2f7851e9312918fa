use Rattle.std.proofs.Common.{List, ap₂, ◌∙◌}
use Rattle.jz_tree.specs.declared.program.Program.{Program}
use Rattle.jz_tree.specs.declared.program.Const.{Const}
use Rattle.jz_tree.specs.declared.program.Fun.{Fun}
use Rattle.jz_resolve.specs.Programs.{resolved_by}
use Rattle.jz_resolve.proofs.program.resolve.Goals as goal

pub returns : goal.returns
returns c =
    let made : List Const → List Fun → Program = λ cs fs. record { consts = cs; funs = fs } in
    ap₂ made c.in_ok-consts.ensures c.in_ok-funs.ensures ∙ ap₂ (λ p v. resolved_by p v c.args.program) c.in_ok-table.ensures.places c.in_ok-table.ensures.values
