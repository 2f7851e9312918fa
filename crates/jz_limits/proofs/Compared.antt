-- The sizes of what conditions compare.
use Rattle.std.proofs.Common.{◌≡◌, Bool, Option, None, sym, ap, ◌∙◌}
use Rattle.std.specs.Prelude.{ℤ}
use Rattle.std.specs.Option.{option_or}
use Rattle.jz_tree.specs.Span.{Span}
use Rattle.jz_tree.specs.Size.{Size}
use Rattle.jz_tree.specs.declared.expr.BinOp.{BinOp}
use Rattle.jz_tree.specs.declared.expr.Expr.{Expr}
use Rattle.jz_tree.specs.declared.expr.Expr.TheVariants as expr
use Rattle.jz_tree.specs.declared.expr.Ty.{Ty}
use Rattle.jz_tree.specs.declared.expr.Access.{Access}
use Rattle.jz_tree.specs.declared.expr.Decl.{Decl}
use Rattle.jz_tree.specs.declared.expr.Var.{Var}
use Rattle.jz_tree.specs.declared.expr.Expr.TheOpen.{Expr-F}
use Rattle.jz_tree.specs.declared.expr.Expr.TheViews.{roll-Expr}
use Rattle.jz_tree.specs.declared.expr.Expr.TheFolds.{para-roll-Expr, map-Expr}
use Rattle.jz_meaning.specs.Values.{own_size}
use Rattle.jz_limits.specs.Asked.{compared_step, size_compared}

compared_is : (y : Expr-F Expr Ty Access Decl Var) → size_compared (roll-Expr y) ≡ compared_step (map-Expr _ _ _ _ _ _ _ _ _ _ (λ x. (x, size_compared x)) (λ t. (t, tt)) (λ a. (a, tt)) (λ d. (d, tt)) (λ v. (v, tt)) y)
compared_is y = para-roll-Expr (Option Size) (Unit {0}) (Unit {0}) (Unit {0}) (Unit {0}) compared_step (λ t. tt) (λ a. tt) (λ d. tt) (λ v. tt) y

pub compared_num : (n : ℤ) (at : Span) → size_compared (expr.Num n at) ≡ None
compared_num n at = ap size_compared (sym (expr.rolls-Num n at)) ∙ compared_is (Expr-F.Num n at)

pub compared_bool : (b : Bool) (at : Span) → size_compared (expr.Bool b at) ≡ None
compared_bool b at = ap size_compared (sym (expr.rolls-Bool b at)) ∙ compared_is (Expr-F.Expr::Bool b at)

pub compared_var : (v : Var) → size_compared (expr.Var v) ≡ None
compared_var v = ap size_compared (sym (expr.rolls-Var v)) ∙ compared_is (Expr-F.Var v)

pub compared_cell : (v : Var) (i : Expr) → size_compared (expr.Cell v i) ≡ None
compared_cell v i = ap size_compared (sym (expr.rolls-Cell v i)) ∙ compared_is (Expr-F.Cell v i)

pub compared_load : (a : Access) → size_compared (expr.Load a) ≡ None
compared_load a = ap size_compared (sym (expr.rolls-Load a)) ∙ compared_is (Expr-F.Load a)

pub compared_neg : (a : Expr) (at : Span) → size_compared (expr.Neg a at) ≡ None
compared_neg a at = ap size_compared (sym (expr.rolls-Neg a at)) ∙ compared_is (Expr-F.Neg a at)

pub compared_not : (a : Expr) (at : Span) → size_compared (expr.Not a at) ≡ size_compared a
compared_not a at = ap size_compared (sym (expr.rolls-Not a at)) ∙ compared_is (Expr-F.Not a at)

pub compared_cast : (z : Size) (s : Bool) (a : Expr) (at : Span) → size_compared (expr.Cast z s a at) ≡ None
compared_cast z s a at = ap size_compared (sym (expr.rolls-Cast z s a at)) ∙ compared_is (Expr-F.Cast z s a at)

pub compared_bin : (o : BinOp) (a b : Expr) (at : Span) → size_compared (expr.Bin o a b at) ≡ option_or (own_size a) (own_size b)
compared_bin o a b at = ap size_compared (sym (expr.rolls-Bin o a b at)) ∙ compared_is (Expr-F.Bin o a b at)
