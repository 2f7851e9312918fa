use Rattle.std.proofs.Common.{◌≡◌, ◌++◌, drop, flat_map}
use Rattle.jz_type_names.specs.Parts.{left_cells}
use Rattle.jz_type_names.specs.Lent.{paired_lists}
use Rattle.jz_type_names.proofs.layers.add_cells_set.Given as goal

abbrev pub invariant-loop-lval : goal.invariant-loop-lval
invariant-loop-lval l = paired_lists l.list.items ++ flat_map left_cells (drop l.lval-index l.lval-items) ≡ paired_lists l.initial.list.items ++ flat_map left_cells l.to
