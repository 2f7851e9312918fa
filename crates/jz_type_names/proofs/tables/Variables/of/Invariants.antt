use Rattle.std.proofs.Common.{map, take}
use Rattle.jz_type_names.specs.Tables.{IsVariables}
use Rattle.jz_type_names.proofs.tables.Variables.of.Given as goal

abbrev pub invariant-loop-param : goal.invariant-loop-param
invariant-loop-param l = IsVariables l.variables (map (λ p. p.var) (take l.param-index l.param-items))
