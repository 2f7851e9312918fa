use Rattle.std.proofs.Common.{◌≡◌, ◌++◌, map, drop}
use Rattle.jz_type_names.specs.Scopes.{name_of}
use Rattle.jz_type_names.specs.Lent.{these}
use Rattle.jz_type_names.specs.Names.{arrays_beside}
use Rattle.jz_type_names.proofs.wanted.add_beside.Given as goal

abbrev pub invariant-loop-arg : goal.invariant-loop-arg
invariant-loop-arg l =
    map name_of (these l.list.items) ++ arrays_beside l.rest (drop l.arg-index l.args)
    ≡ map name_of (these l.initial.list.items) ++ arrays_beside l.params l.args
