use Rattle.std.proofs.Common.{◌≡◌, ◌++◌, map, take, drop}
use Rattle.jz_resolve.specs.Resolving.{expr_with}
use Rattle.jz_resolve.proofs.statements.resolve_exprs.Given as goal

abbrev pub invariant-loop-e : goal.invariant-loop-e
invariant-loop-e g l =
    l.e-items ≡ map (expr_with (g.L.Lookup.known l.names)) (take l.e-index l.fn.exprs) ++ drop l.e-index l.fn.exprs
