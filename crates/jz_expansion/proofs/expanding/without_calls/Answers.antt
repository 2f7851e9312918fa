use Rattle.std.proofs.Common.{refl, inl, subst}
use Rattle.jz_tree.specs.Failures.{IfRefused}
use Rattle.jz_inlining.specs.Inlined.{PassesAt}
use Rattle.jz_expansion.proofs.Refusing.{too_many}
use Rattle.jz_expansion.proofs.expanding.without_calls.Goals as goal

pub returns-in-Err-Refused-Expand-clause-refused : goal.returns-in-Err-Refused-Expand-clause-refused
returns-in-Err-Refused-Expand-clause-refused c =
    let h = subst (λ x. IfRefused x (PassesAt c.args.typed.now.program c.args.fun)) c.in-Err-Refused-Expand.field-0-is c.in-Err-Refused-Expand.ensures.limit in (h.0, h.1, inl (too_many c.args.typed.now.program h.0 c.in-Err-Refused-Expand.field-0-0 h.2, refl))
