-- The outermost layer of each form of expression.
use Rattle.std.proofs.Common.{◌≡◌, Bool, sym, ap, ◌∙◌, ℤ}
use Rattle.jz_words.specs.declared.size.Size.{Size}
use Rattle.jz_io.specs.declared.span.Span.{Span}
use Rattle.jz_tree.specs.declared.expr.BinOp.{BinOp}
use Rattle.jz_tree.specs.declared.expr.Expr.{Expr}
use Rattle.jz_tree.specs.declared.expr.Expr.TheVariants as expr
use Rattle.jz_tree.specs.declared.expr.Expr.TheOpen.{Expr-F}
use Rattle.jz_tree.specs.declared.expr.Expr.TheViews.{out-Expr, out-roll-Expr}
use Rattle.jz_tree.specs.declared.expr.Var.{Var}
use Rattle.jz_tree.specs.declared.expr.Access.{Access}

pub out_num : (i : ℤ) (at : Span) → out-Expr (expr.Num i at) ≡ Expr-F.Num i at
out_num i at = ap out-Expr (sym (expr.rolls-Num i at)) ∙ out-roll-Expr (Expr-F.Num i at)

pub out_bool : (b : Bool) (at : Span) → out-Expr (expr.Bool b at) ≡ Expr-F.Expr::Bool b at
out_bool b at = ap out-Expr (sym (expr.rolls-Bool b at)) ∙ out-roll-Expr (Expr-F.Expr::Bool b at)

pub out_var : (x : Var) → out-Expr (expr.Var x) ≡ Expr-F.Var x
out_var x = ap out-Expr (sym (expr.rolls-Var x)) ∙ out-roll-Expr (Expr-F.Var x)

pub out_cell : (x : Var) (i : Expr) → out-Expr (expr.Cell x i) ≡ Expr-F.Cell x i
out_cell x i = ap out-Expr (sym (expr.rolls-Cell x i)) ∙ out-roll-Expr (Expr-F.Cell x i)

pub out_load : (a : Access) → out-Expr (expr.Load a) ≡ Expr-F.Load a
out_load a = ap out-Expr (sym (expr.rolls-Load a)) ∙ out-roll-Expr (Expr-F.Load a)

pub out_neg : (a : Expr) (at : Span) → out-Expr (expr.Neg a at) ≡ Expr-F.Neg a at
out_neg a at = ap out-Expr (sym (expr.rolls-Neg a at)) ∙ out-roll-Expr (Expr-F.Neg a at)

pub out_not : (a : Expr) (at : Span) → out-Expr (expr.Not a at) ≡ Expr-F.Not a at
out_not a at = ap out-Expr (sym (expr.rolls-Not a at)) ∙ out-roll-Expr (Expr-F.Not a at)

pub out_cast : (z : Size) (s : Bool) (a : Expr) (at : Span) → out-Expr (expr.Cast z s a at) ≡ Expr-F.Cast z s a at
out_cast z s a at = ap out-Expr (sym (expr.rolls-Cast z s a at)) ∙ out-roll-Expr (Expr-F.Cast z s a at)

pub out_bin : (o : BinOp) (a b : Expr) (at : Span) → out-Expr (expr.Bin o a b at) ≡ Expr-F.Bin o a b at
out_bin o a b at = ap out-Expr (sym (expr.rolls-Bin o a b at)) ∙ out-roll-Expr (Expr-F.Bin o a b at)
