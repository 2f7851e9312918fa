use Rattle.std.proofs.Common.{ap, sym, subst, ◌∙◌}
use Rattle.jz_tree.specs.declared.expr.Expr.TheVariants as expr
use Rattle.jz_unrolling_values.specs.Parts.{IsInlinePart, IsPlainPart, IsPart}
use Rattle.jz_unrolling_values.proofs.PartLemmas.{both_inline, plain_left, plain_right}
use Rattle.jz_unrolling_values.proofs.RefusalLemmas.{handed, left_no_value, right_no_value}
use Rattle.jz_unrolling_values.proofs.parts.join.Goals as goal

pub returns-in-Inline-right : goal.returns-in-Inline-right
returns-in-Inline-right c =
    λ names e x y p q. subst (λ k. IsInlinePart names e (expr.Bin c.args.op x y c.args.span) k c.args.span) (sym c.joined.ensures)
    (both_inline names e c.args.op x y c.in-Inline.a c.in-Inline-right.b c.args.span c.in-Inline.at c.in-Inline-right.field-1
    (subst (λ k. IsPart names e x k) c.in-Inline.is p) (subst (λ k. IsPart names e y k) c.in-Inline-right.is q))

pub returns-in_ok-right-in-Plain-right : goal.returns-in_ok-right-in-Plain-right
returns-in_ok-right-in-Plain-right c =
    λ names e x y p q.
    subst (λ k. IsPlainPart names e (expr.Bin c.args.op x y c.args.span) k)
    (sym (ap (λ k. expr.Bin c.args.op k c.in_ok-right-in-Plain-right.right c.args.span) c.in_ok-left-in-Plain-right-2.ensures
    ∙ ap (λ k. expr.Bin c.args.op c.in_ok-left-in-Plain-right.left k c.args.span) c.in_ok-right-in-Plain-right.ensures))
    (plain_right names e c.args.op x y c.in_ok-left-in-Plain-right.left c.in-Plain-right.right c.args.span
    (c.in_ok-left-in-Plain-right.ensures names e x (subst (λ k. IsPart names e x k) c.in-Inline.is p))
    (subst (λ k. IsPart names e y k) c.in-Plain-right.is q))

pub returns-in_ok-right-in-Plain-2 : goal.returns-in_ok-right-in-Plain-2
returns-in_ok-right-in-Plain-2 c =
    λ names e x y p q.
    subst (λ k. IsPlainPart names e (expr.Bin c.args.op x y c.args.span) k)
    (sym (ap (λ k. expr.Bin c.args.op k c.in_ok-right-in-Plain-2.right c.args.span) c.in_ok-left-in-Plain.ensures
    ∙ ap (λ k. expr.Bin c.args.op c.in-Plain.left k c.args.span) c.in_ok-right-in-Plain-2.ensures))
    (plain_left names e c.args.op x y c.in-Plain.left c.in_ok-right-in-Plain.right c.args.span
    (subst (λ k. IsPart names e x k) c.in-Plain.is p)
    (c.in_ok-right-in-Plain.ensures names e y q))

pub returns-in_err-left-in-Plain-right : goal.returns-in_err-left-in-Plain-right
returns-in_err-left-in-Plain-right c =
    λ names e x y p q.
    handed _ _ c.from_residual.result c.in_err-left-in-Plain-right.field-0.0 c.from_residual.ensures.1
    (c.in_err-left-in-Plain-right.ensures names e x (subst (λ k. IsPart names e x k) c.in-Inline.is p))
    (left_no_value names e c.args.op x y c.args.span (subst (λ k. IsPart names e y k) c.in-Plain-right.is q).plain)

pub returns-in_err-right-in-Plain : goal.returns-in_err-right-in-Plain
returns-in_err-right-in-Plain c =
    λ names e x y p q.
    handed _ _ c.from_residual-in_err-right-in-Plain.result c.in_err-right-in-Plain.field-0.0 c.from_residual-in_err-right-in-Plain.ensures.1
    (c.in_err-right-in-Plain.ensures names e y q)
    (right_no_value names e c.args.op x y c.args.span (subst (λ k. IsPart names e x k) c.in-Plain.is p).plain)
