use Rattle.std.proofs.Common.{◌≡◌, ◌++◌, drop}
use Rattle.jz_type_names.specs.Parts.{statements_of}
use Rattle.jz_type_names.specs.Lent.{these}
use Rattle.jz_type_names.proofs.bodies.+statements.Given as goal

abbrev pub invariant-add_statements-loop-stmt : goal.invariant-add_statements-loop-stmt
invariant-add_statements-loop-stmt l = these l.list.items ++ statements_of (drop l.stmt-index l.stmt-items) ≡ these l.initial.list.items ++ statements_of l.body
