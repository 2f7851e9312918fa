use Rattle.std.proofs.Common.{sym, subst}
use Rattle.jz_tree.specs.declared.expr.Expr.TheVariants as expr
use Rattle.jz_unrolling_values.specs.Parts.{IsInlinePart, IsPlainPart, IsPart}
use Rattle.jz_unrolling_values.proofs.PartLemmas.{opposite_part, plain_opposite}
use Rattle.jz_unrolling_values.proofs.expressions.inverted_part.Goals as goal

pub returns-in-Inline : goal.returns-in-Inline
returns-in-Inline c =
    λ names e x p. subst (λ y. IsInlinePart names e (expr.Not x c.args.span) y c.args.span) (sym c.opposite.ensures)
    (opposite_part names e x c.in-Inline.value c.args.span c.in-Inline.field-1 (subst (λ k. IsPart names e x k) c.in-Inline.is p))

pub returns-in_ok-e-in-Plain : goal.returns-in_ok-e-in-Plain
returns-in_ok-e-in-Plain c =
    λ names e x p. subst (λ y. IsPlainPart names e (expr.Not x c.args.span) (expr.Not y c.args.span)) (sym c.in_ok-e-in-Plain.ensures)
    (plain_opposite names e x c.in-Plain.e c.args.span (subst (λ k. IsPart names e x k) c.in-Plain.is p))
