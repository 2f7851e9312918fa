use Rattle.std.proofs.Common.{◌≡◌, ◌++◌, map}
use Rattle.jz_type_names.specs.Scopes.{name_of}
use Rattle.jz_type_names.specs.Parts.{arrays_read_by, set_by, layer_of}
use Rattle.jz_type_names.specs.Lent.{these}
use Rattle.jz_type_names.proofs.wanted.variables_wanted.Given as goal

abbrev pub invariant-loop-array : goal.invariant-loop-array
invariant-loop-array l =
    map name_of (these l.list.items) ++ map name_of (these l.array-iterator.rest.items)
    ≡ map name_of (set_by (layer_of l.fn.stmt)) ++ arrays_read_by (layer_of l.fn.stmt)
