use Rattle.std.proofs.Common.{◌≡◌, ◌++◌, map}
use Rattle.jz_type_names.specs.Scopes.{name_of}
use Rattle.jz_type_names.specs.Parts.{names_in}
use Rattle.jz_type_names.specs.Lent.{these}
use Rattle.jz_type_names.proofs.layers.add_names.Given as goal

abbrev pub invariant-loop-var : goal.invariant-loop-var
invariant-loop-var l = map name_of (these l.list.items) ++ map name_of (these l.var-iterator.rest.items) ≡ map name_of (these l.initial.list.items) ++ names_in l.fn.expr
