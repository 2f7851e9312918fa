use Rattle.std.proofs.Common.{◌≡◌, ◌++◌, map, take, drop}
use Rattle.jz_resolve.specs.InnerResolving.{lval_with}
use Rattle.jz_resolve.proofs.statements.resolve_lvals.Given as goal

abbrev pub invariant-loop-to : goal.invariant-loop-to
invariant-loop-to g l =
    l.to-items ≡ map (lval_with (g.L.Lookup.known l.names)) (take l.to-index l.fn.lvals) ++ drop l.to-index l.fn.lvals
