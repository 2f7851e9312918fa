use Rattle.std.proofs.Common.{subst}
use Rattle.std.proofs.Math.Logic.{∥∥₁_elim}
use Rattle.jz_tree.specs.Failures.{IfRefused}
use Rattle.jz_unrolling.specs.Unrolled.{IsUnrollable}
use Rattle.jz_expansion.proofs.expanding.rounds_of.Goals as goal

pub unreachable-requires : goal.unreachable-requires
unreachable-requires c =
    let never = subst (λ x. IfRefused x (λ at. IsUnrollable c.args.fun.now → ⊥)) c.in-Err-Refused.field-0-is c.in-Err-Refused.ensures.refused in
    ∥∥₁_elim c.requires (λ x y. absurd x) never
