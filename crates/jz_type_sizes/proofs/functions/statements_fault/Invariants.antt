use Rattle.std.proofs.Common.{◌≡◌, drop}
use Rattle.jz_type_names.specs.Order.{earlier, first_in}
use Rattle.jz_type_names.specs.Tables.{function_in}
use Rattle.jz_type_names.specs.Lent.{these}
use Rattle.jz_type_sizes.specs.Mismatches.{stmt_wrong}
use Rattle.jz_type_sizes.proofs.functions.statements_fault.Given as goal

abbrev pub invariant-loop-stmt : goal.invariant-loop-stmt
invariant-loop-stmt l = earlier l.first (first_in (stmt_wrong (function_in l.functions)) (these (drop l.stmt-index l.stmts))) ≡ first_in (stmt_wrong (function_in l.functions)) (these l.fn.stmts)
