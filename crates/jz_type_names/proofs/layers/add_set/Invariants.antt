use Rattle.std.proofs.Common.{◌≡◌, ◌++◌, drop, flat_map}
use Rattle.jz_type_names.specs.Parts.{left_vars}
use Rattle.jz_type_names.specs.Lent.{these}
use Rattle.jz_type_names.proofs.layers.add_set.Given as goal

abbrev pub invariant-loop-lval : goal.invariant-loop-lval
invariant-loop-lval l = these l.list.items ++ flat_map left_vars (drop l.lval-index l.lval-items) ≡ these l.initial.list.items ++ flat_map left_vars l.to
