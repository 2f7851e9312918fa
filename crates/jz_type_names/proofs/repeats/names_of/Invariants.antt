use Rattle.std.proofs.Common.{◌≡◌, take, map}
use Rattle.jz_type_names.specs.Scopes.{name_of}
use Rattle.jz_type_names.specs.Lent.{these}
use Rattle.jz_type_names.specs.InnerLists.{these_names}
use Rattle.jz_type_names.proofs.repeats.names_of.Given as goal

abbrev pub invariant-loop-var : goal.invariant-loop-var
invariant-loop-var l = these_names l.list.items ≡ map name_of (these (take l.var-index l.vars))
