use Rattle.std.proofs.Common.{◌≡◌, List}
use Rattle.jz_tree.specs.declared.program.Fun.{Fun}
use Rattle.jz_type_names.specs.Order.{earlier, first_in}
use Rattle.jz_type_names.specs.Lent.{these}
use Rattle.jz_type_names.specs.Parts.{statements_of}
use Rattle.jz_type_rows.specs.Programs.{of_statement}
use Rattle.jz_type_rows.specs.Copies.{copied_by}
use Rattle.jz_type_rows.specs.Tables.{HasCallees}
use Rattle.jz_type_rows.proofs.bodies.copied_in_body.Given as goal

abbrev pub invariant-loop-stmt : goal.invariant-loop-stmt
invariant-loop-stmt l =
    (fs : List Fun) → HasCallees l.callees fs
    → earlier l.first (first_in (of_statement (copied_by fs)) (these l.stmt-iterator.rest.items)) ≡ first_in (of_statement (copied_by fs)) (statements_of l.fn.body)
