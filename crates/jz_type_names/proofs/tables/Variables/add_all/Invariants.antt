use Rattle.std.proofs.Common.{List, take, ◌++◌}
use Rattle.jz_tree.specs.declared.expr.Var.{Var}
use Rattle.jz_type_names.specs.Tables.{IsVariables}
use Rattle.jz_type_names.proofs.tables.Variables.add_all.Given as goal

abbrev pub invariant-loop-var : goal.invariant-loop-var
invariant-loop-var l = (vs : List Var) → IsVariables l.initial.self vs → IsVariables l.self (vs ++ take l.var-index l.var-items)
