use Rattle.std.proofs.Common.{◌≡◌, ◌++◌, drop, flat_map}
use Rattle.jz_type_names.specs.Parts.{whole_left}
use Rattle.jz_type_names.specs.Lent.{these}
use Rattle.jz_type_names.proofs.layers.add_whole.Given as goal

abbrev pub invariant-loop-lval : goal.invariant-loop-lval
invariant-loop-lval l = these l.list.items ++ flat_map whole_left (drop l.lval-index l.lval-items) ≡ these l.initial.list.items ++ flat_map whole_left l.to
