use Rattle.std.proofs.Common.{◌≡◌, ◌++◌, take, map}
use Rattle.jz_type_names.specs.Lent.{these}
use Rattle.jz_type_names.proofs.declarations.add_rets.Given as goal

abbrev pub invariant-loop-ret : goal.invariant-loop-ret
invariant-loop-ret l = these l.list.items ≡ these l.initial.list.items ++ map (λ r. r.decl) (take l.ret-index l.ret-items)
