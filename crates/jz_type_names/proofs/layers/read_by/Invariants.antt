use Rattle.std.proofs.Common.{◌≡◌, ◌++◌, map, flat_map}
use Rattle.jz_type_names.specs.Scopes.{name_of}
use Rattle.jz_type_names.specs.Parts.{names_in, read_by, layer_of}
use Rattle.jz_type_names.specs.Lent.{these}
use Rattle.jz_type_names.proofs.layers.read_by.Given as goal

abbrev pub invariant-loop-expr : goal.invariant-loop-expr
invariant-loop-expr l = map name_of (these l.list.items) ++ flat_map names_in (these l.expr-iterator.rest.items) ≡ read_by (layer_of l.fn.stmt)
