use Rattle.std.proofs.Common.{◌≡◌, ◌++◌}
use Rattle.jz_type_names.specs.Lent.{these}
use Rattle.jz_type_names.specs.Parts.{layer_of, set_by}
use Rattle.jz_type_rows.proofs.callee.add_set.Given as goal

abbrev pub invariant-loop-var : goal.invariant-loop-var
invariant-loop-var l = these l.list.items ++ these l.var-iterator.rest.items ≡ these l.initial.list.items ++ set_by (layer_of l.fn.stmt)
