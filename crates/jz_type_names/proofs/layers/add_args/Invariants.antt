use Rattle.std.proofs.Common.{◌≡◌, ◌++◌, take}
use Rattle.jz_type_names.specs.Lent.{these}
use Rattle.jz_type_names.proofs.layers.add_args.Given as goal

abbrev pub invariant-loop-arg : goal.invariant-loop-arg
invariant-loop-arg l = these l.list.items ≡ these l.initial.list.items ++ take l.arg-index l.arg-items
