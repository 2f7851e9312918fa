use Rattle.std.proofs.Common.{◌≡◌, ◌++◌, map}
use Rattle.jz_type_names.specs.Scopes.{name_of}
use Rattle.jz_type_names.specs.Parts.{arrays_of, arrays_in}
use Rattle.jz_type_names.specs.Lent.{these, paired_lists}
use Rattle.jz_type_names.proofs.wanted.add_arrays.Given as goal

abbrev pub invariant-loop-cell : goal.invariant-loop-cell
invariant-loop-cell l =
    map name_of (these l.list.items) ++ arrays_of (paired_lists l.cell-iterator.rest.items)
    ≡ map name_of (these l.initial.list.items) ++ arrays_in l.fn.expr
