use Rattle.std.proofs.Common.{◌≡◌, ◌++◌, map, flat_map}
use Rattle.jz_type_names.specs.Scopes.{name_of}
use Rattle.jz_type_names.specs.Parts.{arrays_in, arrays_read_by, layer_of}
use Rattle.jz_type_names.specs.Lent.{these}
use Rattle.jz_type_names.proofs.wanted.arrays_read_by.Given as goal

abbrev pub invariant-loop-expr : goal.invariant-loop-expr
invariant-loop-expr l =
    map name_of (these l.list.items) ++ flat_map arrays_in (these l.expr-iterator.rest.items)
    ≡ arrays_read_by (layer_of l.fn.stmt)
