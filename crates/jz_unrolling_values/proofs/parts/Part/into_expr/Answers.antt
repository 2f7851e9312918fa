use Rattle.std.proofs.Common.{sym, subst}
use Rattle.jz_unrolling_values.specs.Parts.{IsInlinePart, IsPart, IsValued}
use Rattle.jz_unrolling_values.proofs.PartLemmas.{constant_valued}
use Rattle.jz_unrolling_values.proofs.RefusalLemmas.{none_known}
use Rattle.jz_unrolling_values.proofs.parts.Part.into_expr.Goals as goal

pub returns-in-Some : goal.returns-in-Some
returns-in-Some c =
    λ names e x p.
    let i = c.in-Inline in
    subst (λ y. IsValued names e x y) (sym c.written.ensures)
    (constant_valued names e x c.in-Some.constant i.span
    (subst (λ k. IsInlinePart names e x k i.span) c.in-Some.is (subst (λ k. IsPart names e x k) i.is p)))

pub returns-in-None : goal.returns-in-None
returns-in-None c =
    λ names e x p.
    let i = c.in-Inline in
    none_known names e x i.value i.span (subst (λ k. IsPart names e x k) i.is p) c.in-None.is
