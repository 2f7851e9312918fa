use Rattle.std.proofs.Common.{◌≡◌, ◌++◌, map, take, drop}
use Rattle.jz_resolve.specs.Resolving.{var_with}
use Rattle.jz_resolve.proofs.statements.resolve_vars.Given as goal

abbrev pub invariant-loop-var : goal.invariant-loop-var
invariant-loop-var g l =
    l.var-items ≡ map (var_with (g.L.Lookup.known l.names)) (take l.var-index l.fn.vars) ++ drop l.var-index l.fn.vars
