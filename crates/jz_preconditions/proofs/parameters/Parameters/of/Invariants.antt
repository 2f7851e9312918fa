use Rattle.std.proofs.Common.{map, take}
use Rattle.jz_preconditions.specs.InnerTables.{IsParameters}
use Rattle.jz_preconditions.proofs.parameters.Parameters.of.Given as goal

abbrev pub invariant-loop-param : goal.invariant-loop-param
invariant-loop-param l = IsParameters l.parameters (map (λ p. p.var) (take l.param-index l.param-items))
