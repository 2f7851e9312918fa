use Rattle.std.proofs.Common.{◌≡◌, ◌++◌, map}
use Rattle.jz_type_names.specs.Scopes.{name_of}
use Rattle.jz_type_names.specs.Parts.{names_in}
use Rattle.jz_type_names.specs.Lent.{these}
use Rattle.jz_type_names.specs.InnerLists.{count_of}
use Rattle.jz_type_names.proofs.Stacks.{stacked}
use Rattle.jz_type_names.proofs.exprs.names.Given as goal

abbrev pub invariant-loop-e : goal.invariant-loop-e
invariant-loop-e l = map name_of (these l.names.items) ++ stacked names_in (these l.rest.items) ≡ names_in l.fn.expr

abbrev pub decreases-loop-e : goal.decreases-loop-e
decreases-loop-e l = count_of (these l.rest.items)
