use Rattle.std.proofs.Common.{◌≡◌, drop}
use Rattle.jz_type_names.specs.Scopes.{variable_named}
use Rattle.jz_given.specs.Giving as giving
use Rattle.jz_given.proofs.regions.named.Given as goal

abbrev pub invariant-loop-param : goal.invariant-loop-param
invariant-loop-param l = variable_named l.name (giving.variables (drop l.param-index l.param-items)) ≡ variable_named l.name (giving.variables l.param-items)
