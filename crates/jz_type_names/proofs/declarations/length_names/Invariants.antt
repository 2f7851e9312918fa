use Rattle.std.proofs.Common.{◌≡◌, ◌++◌, map, flat_map}
use Rattle.jz_type_names.specs.Scopes.{name_of}
use Rattle.jz_type_names.specs.Lent.{these}
use Rattle.jz_type_names.specs.Names.{decl_names, length_names}
use Rattle.jz_type_names.proofs.declarations.length_names.Given as goal

abbrev pub invariant-loop-decl : goal.invariant-loop-decl
invariant-loop-decl l = map name_of (these l.list.items) ++ flat_map decl_names (these l.decl-iterator.rest.items) ≡ length_names l.fn.fun
