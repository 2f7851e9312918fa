use Rattle.std.proofs.Common.{subst}
use Rattle.jz_tree.specs.Failures.{IfRefused}
use Rattle.jz_expansion.specs.Expanding.{PassesAt}
use Rattle.jasminc_expansions.proofs.Readying.{ready_export, never_passes}
use Rattle.jasminc_expansions.proofs.expanding.expanded_at.Goals as goal

pub expand-requires-clause-export : goal.expand-requires-clause-export
expand-requires-clause-export c = ready_export c.args.typed.now.program c.args.place c.requires

pub unreachable-requires : goal.unreachable-requires
unreachable-requires c =
    never_passes c.args.typed.now.program c.args.place c.requires _
    (subst (λ x. IfRefused x (PassesAt c.args.typed.now.program c.args.place)) c.in-Err-Refused.field-0-is c.in-Err-Refused.ensures.refused)
