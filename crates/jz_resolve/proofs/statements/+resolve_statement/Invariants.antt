use Rattle.std.proofs.Common.{◌≡◌, ◌++◌, map, take, drop}
use Rattle.jz_resolve.specs.Resolving.{stmt_with}
use Rattle.jz_resolve.proofs.statements.+resolve_statement.Given as goal

abbrev pub invariant-resolve_block-loop-s : goal.invariant-resolve_block-loop-s
invariant-resolve_block-loop-s g l =
    l.s-items ≡ map (stmt_with (g.L.Lookup.known l.names)) (take l.s-index l.fn.block) ++ drop l.s-index l.fn.block
