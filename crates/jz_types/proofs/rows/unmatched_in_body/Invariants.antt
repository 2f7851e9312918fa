use Rattle.std.proofs.Common.{◌≡◌, List}
use Rattle.jz_tree.specs.declared.program.Fun.{Fun}
use Rattle.jz_type_names.specs.Order.{earlier, first_in}
use Rattle.jz_type_names.specs.Lent.{these}
use Rattle.jz_type_names.specs.Parts.{statements_of}
use Rattle.jz_type_names.specs.Tables.{place_in, function_in}
use Rattle.jz_type_rows.specs.Tables.{HasCallees}
use Rattle.jz_types.specs.Rows.{unmatched_at}
use Rattle.jz_types.proofs.rows.unmatched_in_body.Given as goal

abbrev pub invariant-loop-stmt : goal.invariant-loop-stmt
invariant-loop-stmt l =
    (fs : List Fun) → HasCallees l.callees fs
    → earlier l.first (first_in (unmatched_at (place_in l.constants) (place_in l.variables) (function_in l.functions) fs) (these l.stmt-iterator.rest.items))
    ≡ first_in (unmatched_at (place_in l.constants) (place_in l.variables) (function_in l.functions) fs) (statements_of l.fn.body)
