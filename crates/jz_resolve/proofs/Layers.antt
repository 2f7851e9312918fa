-- One layer of an expression that is resolved.
use Rattle.std.proofs.Common.{◌≡◌, ℕ, ℤ, List, Option, sym, ap, ◌∙◌}
use Rattle.jz_tree.specs.Span.{Span}
use Rattle.jz_tree.specs.declared.expr.BinOp.{BinOp}
use Rattle.jz_tree.specs.declared.expr.Expr.{Expr}
use Rattle.jz_tree.specs.declared.expr.Expr.TheVariants as expr
use Rattle.jz_tree.specs.declared.expr.Decl.{Decl}
use Rattle.jz_tree.specs.declared.expr.Expr.TheOpen.{Expr-F}
use Rattle.jz_tree.specs.declared.expr.Expr.TheViews.{roll-Ty, roll-Access, roll-Decl}
use Rattle.jz_tree.specs.declared.expr.Expr.TheFolds.{fold-roll-Expr}
use Rattle.jz_type_names.specs.Scopes.{Name}
use Rattle.jz_resolve.specs.Resolving.{expr_step, var_step, resolved_expr}

module _ (d : List ℕ → Option Decl) (n : Name → Option (Option ℤ)) where
  pub bin_resolved : (op : BinOp) (l r : Expr) (at : Span) → resolved_expr d n (expr.Bin op l r at) ≡ expr.Bin op (resolved_expr d n l) (resolved_expr d n r) at
  bin_resolved op l r at =
      ap (resolved_expr d n) (sym (expr.rolls-Bin op l r at))
      ∙ fold-roll-Expr _ _ _ _ _ (expr_step d n) roll-Ty roll-Access roll-Decl (var_step d n) (Expr-F.Bin op l r at)
      ∙ expr.rolls-Bin op (resolved_expr d n l) (resolved_expr d n r) at
