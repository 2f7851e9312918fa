use Rattle.std.proofs.Common.{◌≡◌}
use Rattle.jz_type_names.specs.Order.{earlier, first_in}
use Rattle.jz_type_names.specs.Lent.{these}
use Rattle.jz_type_names.specs.Parts.{statements_of}
use Rattle.jz_type_rows.specs.Programs.{of_statement}
use Rattle.jz_type_rows.specs.Indexes.{indexed_by}
use Rattle.jz_type_rows.proofs.bodies.indexed_in_body.Given as goal

abbrev pub invariant-loop-stmt : goal.invariant-loop-stmt
invariant-loop-stmt l = earlier l.first (first_in (of_statement indexed_by) (these l.stmt-iterator.rest.items)) ≡ first_in (of_statement indexed_by) (statements_of l.fn.body)
