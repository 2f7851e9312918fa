-- The size that an expression has by itself, by its form.
use Rattle.std.proofs.Common.{◌≡◌, None, sym, ap, ◌∙◌, ℤ}
use Rattle.jz_tree.specs.Span.{Span}
use Rattle.jz_tree.specs.declared.expr.BinOp.{BinOp}
use Rattle.jz_tree.specs.declared.expr.Expr.{Expr}
use Rattle.jz_tree.specs.declared.expr.Expr.TheVariants as expr
use Rattle.jz_tree.specs.declared.expr.Expr.TheOpen.{Expr-F}
use Rattle.jz_tree.specs.declared.expr.Expr.TheFolds.{fold-roll-Expr}
use Rattle.jz_tree.specs.declared.expr.Access.{Access}
use Rattle.jz_tree.specs.declared.expr.Var.{Var}
use Rattle.jz_meaning.specs.Values.{Meaning, size_of, size_of_operation, expr_step, ty_step, access_step, decl_step, var_step, ref_of, access_of, own_size}

pub own_num : (i : ℤ) (at : Span) → own_size (expr.Num i at) ≡ None
own_num i at = ap own_size (sym (expr.rolls-Num i at)) ∙ ap (λ (m : Meaning). m.size) (fold-roll-Expr _ _ _ _ _ expr_step ty_step access_step decl_step var_step (Expr-F.Num i at))

pub own_cell : (v : Var) (i : Expr) → own_size (expr.Cell v i) ≡ size_of (ref_of v).kind
own_cell v i = ap own_size (sym (expr.rolls-Cell v i)) ∙ ap (λ (m : Meaning). m.size) (fold-roll-Expr _ _ _ _ _ expr_step ty_step access_step decl_step var_step (Expr-F.Cell v i))

pub own_load : (a : Access) → own_size (expr.Load a) ≡ (access_of a).size
own_load a = ap own_size (sym (expr.rolls-Load a)) ∙ ap (λ (m : Meaning). m.size) (fold-roll-Expr _ _ _ _ _ expr_step ty_step access_step decl_step var_step (Expr-F.Load a))

pub own_bin : (o : BinOp) (a b : Expr) (at : Span) → own_size (expr.Bin o a b at) ≡ size_of_operation o (own_size a) (own_size b)
own_bin o a b at = ap own_size (sym (expr.rolls-Bin o a b at)) ∙ ap (λ (m : Meaning). m.size) (fold-roll-Expr _ _ _ _ _ expr_step ty_step access_step decl_step var_step (Expr-F.Bin o a b at))
