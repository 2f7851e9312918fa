use Rattle.std.proofs.Common.{◌≡◌, ◌++◌, take}
use Rattle.jz_type_names.specs.Lent.{these}
use Rattle.jz_type_names.proofs.layers.add_refs.Given as goal

abbrev pub invariant-loop-var : goal.invariant-loop-var
invariant-loop-var l = these l.list.items ≡ these l.initial.list.items ++ take l.var-index l.var-items
