-- An expression of each form as it is in a copy.
use Rattle.std.proofs.Common.{◌≡◌, ℤ, Bool, ap, sym, ◌∙◌}
use Rattle.jz_tree.specs.Span.{Span}
use Rattle.jz_tree.specs.Size.{Size}
use Rattle.jz_tree.specs.declared.expr.BinOp.{BinOp}
use Rattle.jz_tree.specs.declared.expr.Expr.{Expr}
use Rattle.jz_tree.specs.declared.expr.Expr.TheVariants as expr
use Rattle.jz_tree.specs.declared.expr.Access.{Access}
use Rattle.jz_tree.specs.declared.expr.Var.{Var}
use Rattle.jz_tree.specs.declared.expr.Expr.TheOpen.{Expr-F}
use Rattle.jz_tree.specs.declared.expr.Expr.TheViews.{roll-Access, out-Access, roll-out-Access}
use Rattle.jz_inline.specs.Names.{Names, var_in, expr_in, access_in}
use Rattle.jz_inline.proofs.Reading.{in_is, access_in_is}

module _ (names : Names) where
  pub in_num : (n : ℤ) (at : Span) → expr_in names (expr.Num n at) ≡ expr.Num n at
  in_num n at = ap (expr_in names) (sym (expr.rolls-Num n at)) ∙ in_is names (Expr-F.Num n at) ∙ expr.rolls-Num n at

  pub in_bool : (c : Bool) (at : Span) → expr_in names (expr.Bool c at) ≡ expr.Bool c at
  in_bool c at = ap (expr_in names) (sym (expr.rolls-Bool c at)) ∙ in_is names (Expr-F.Expr::Bool c at) ∙ expr.rolls-Bool c at

  pub in_var : (v : Var) → expr_in names (expr.Var v) ≡ expr.Var (var_in names v)
  in_var v = ap (expr_in names) (sym (expr.rolls-Var v)) ∙ in_is names (Expr-F.Var v) ∙ expr.rolls-Var (var_in names v)

  pub in_cell : (v : Var) (i : Expr) → expr_in names (expr.Cell v i) ≡ expr.Cell (var_in names v) (expr_in names i)
  in_cell v i = ap (expr_in names) (sym (expr.rolls-Cell v i)) ∙ in_is names (Expr-F.Cell v i) ∙ expr.rolls-Cell (var_in names v) (expr_in names i)

  pub in_load : (a : Access) → expr_in names (expr.Load a) ≡ expr.Load (access_in names a)
  in_load a = ap (expr_in names) (sym (expr.rolls-Load a)) ∙ in_is names (Expr-F.Load a) ∙ expr.rolls-Load (access_in names a)

  pub in_neg : (e : Expr) (at : Span) → expr_in names (expr.Neg e at) ≡ expr.Neg (expr_in names e) at
  in_neg e at = ap (expr_in names) (sym (expr.rolls-Neg e at)) ∙ in_is names (Expr-F.Neg e at) ∙ expr.rolls-Neg (expr_in names e) at

  pub in_not : (e : Expr) (at : Span) → expr_in names (expr.Not e at) ≡ expr.Not (expr_in names e) at
  in_not e at = ap (expr_in names) (sym (expr.rolls-Not e at)) ∙ in_is names (Expr-F.Not e at) ∙ expr.rolls-Not (expr_in names e) at

  pub in_cast : (z : Size) (s : Bool) (e : Expr) (at : Span) → expr_in names (expr.Cast z s e at) ≡ expr.Cast z s (expr_in names e) at
  in_cast z s e at = ap (expr_in names) (sym (expr.rolls-Cast z s e at)) ∙ in_is names (Expr-F.Cast z s e at) ∙ expr.rolls-Cast z s (expr_in names e) at

  pub in_bin : (op : BinOp) (a b : Expr) (at : Span) → expr_in names (expr.Bin op a b at) ≡ expr.Bin op (expr_in names a) (expr_in names b) at
  in_bin op a b at = ap (expr_in names) (sym (expr.rolls-Bin op a b at)) ∙ in_is names (Expr-F.Bin op a b at) ∙ expr.rolls-Bin op (expr_in names a) (expr_in names b) at

  pub in_access : (a : Access) → access_in names a ≡ roll-Access (record { size = (out-Access a).size; at = expr_in names (out-Access a).at; unaligned = (out-Access a).unaligned; span = (out-Access a).span })
  in_access a = ap (access_in names) (sym (roll-out-Access a)) ∙ access_in_is names (out-Access a)
