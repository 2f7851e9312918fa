use Rattle.std.proofs.Common.{◌≡◌, take, map}
use Rattle.jz_type_names.specs.Lent.{these}
use Rattle.jz_type_names.proofs.declarations.variables.Given as goal

abbrev pub invariant-loop-param : goal.invariant-loop-param
invariant-loop-param l = these l.list.items ≡ map (λ p. p.var) (take l.param-index l.param-items)
