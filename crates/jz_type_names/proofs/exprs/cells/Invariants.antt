use Rattle.std.proofs.Common.{◌≡◌, ◌++◌}
use Rattle.jz_type_names.specs.Parts.{cells_in}
use Rattle.jz_type_names.specs.Lent.{these, paired_lists}
use Rattle.jz_type_names.specs.InnerLists.{count_of}
use Rattle.jz_type_names.proofs.Stacks.{stacked}
use Rattle.jz_type_names.proofs.exprs.cells.Given as goal

abbrev pub invariant-loop-e : goal.invariant-loop-e
invariant-loop-e l = paired_lists l.cells.items ++ stacked cells_in (these l.rest.items) ≡ cells_in l.fn.expr

abbrev pub decreases-loop-e : goal.decreases-loop-e
decreases-loop-e l = count_of (these l.rest.items)
