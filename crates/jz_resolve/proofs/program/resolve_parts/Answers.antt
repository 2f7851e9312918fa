use Rattle.std.proofs.Common.{map, ap₂, ◌∙◌}
use Rattle.jz_resolve.specs.Resolving.{resolved_stmt, resolved_var}
use Rattle.jz_resolve.proofs.program.resolve_parts.Goals as goal

pub returns-clause-body : goal.returns-clause-body
returns-clause-body c =
    let s = c.in_ok-scope.ensures
    in c.in_ok-resolve_block.ensures ∙ ap₂ (λ d n. map (resolved_stmt d n) c.args.body.now) s.declaration s.number

pub returns-clause-returned : goal.returns-clause-returned
returns-clause-returned c =
    let s = c.in_ok-scope.ensures
    in c.in_ok-resolve_vars.ensures ∙ ap₂ (λ d n. map (resolved_var d n) c.args.returned.now) s.declaration s.number
