use Rattle.std.proofs.Common.{◌≡◌, ◌++◌, drop, map}
use Rattle.jz_given.specs.Giving as giving
use Rattle.jz_given.proofs.parameters.parameters.Given as goal

abbrev pub invariant-loop-param : goal.invariant-loop-param
invariant-loop-param l = l.list.items ++ map (giving.param_of l.pres) (drop l.param-index l.param-items) ≡ map (giving.param_of l.pres) l.param-items
