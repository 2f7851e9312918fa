-- What an operation makes of an inline variable.
use Rattle.std.proofs.Common.{◌≡◌, Bool, true, false, Option, Some, None, refl, sym, ap, ◌∙◌, if◌then◌else◌}
use Rattle.std.specs.Prelude.{ℤ, ◌&&◌}
use Rattle.jz_tree.specs.Span.{Span}
use Rattle.jz_tree.specs.Operators.{carries}
use Rattle.jz_tree.specs.declared.expr.BinOp.{BinOp}
use Rattle.jz_tree.specs.declared.expr.Expr.{Expr}
use Rattle.jz_tree.specs.declared.expr.Expr.TheVariants as expr
use Rattle.jz_tree.specs.declared.expr.Expr.TheOpen.{Expr-F}
use Rattle.jz_tree.specs.declared.expr.Expr.TheViews.{out-Expr, out-Var}
use Rattle.jz_tree.specs.declared.expr.Var.{Var}
use Rattle.jz_integers.specs.Integers.{KnownNumbers, inline_value, joined, number}
use Rattle.jz_integers.specs.declared.constant.Constant.{Constant}
use Rattle.jz_integers.proofs.LeftSideLemmas.{value_bin}
use Rattle.jz_meaning.specs.Values.{ref_of}
use Rattle.jz_meaning.specs.Assignments.{Layer, is_flag, updated_layer}
use Rattle.jz_limits.specs.Asked.{set_value}
use Rattle.jz_limits.specs.InnerSets.{updated_by, updated_value}
use Rattle.jz_limits.proofs.Layers.{value_var}

module _ (e : KnownNumbers) where
  by_carry : (b : Bool) (p o : BinOp) (d a c x : Expr) (at : Span) → inline_value e (if b then expr.Bin p (expr.Bin o d a at) c at else expr.Bin o d x at) ≡ (if b then joined p (joined o (inline_value e d) (inline_value e a)) (inline_value e c) else joined o (inline_value e d) (inline_value e x))
  by_carry true p o d a c x at = value_bin e p (expr.Bin o d a at) c at ∙ ap (λ v. joined p v (inline_value e c)) (value_bin e o d a at)
  by_carry false p o d a c x at = value_bin e o d x at

  by_layer : (y : Layer) (o : BinOp) (d x : Expr) (at : Span) → inline_value e (updated_layer o d x at y) ≡ updated_by e o (inline_value e d) x y
  by_layer (Expr-F.Num n s) o d x at = value_bin e o d x at
  by_layer (Expr-F.Expr::Bool b s) o d x at = value_bin e o d x at
  by_layer (Expr-F.Var v) o d x at = value_bin e o d x at
  by_layer (Expr-F.Cell v i) o d x at = value_bin e o d x at
  by_layer (Expr-F.Load a) o d x at = value_bin e o d x at
  by_layer (Expr-F.Neg a s) o d x at = value_bin e o d x at
  by_layer (Expr-F.Not a s) o d x at = value_bin e o d x at
  by_layer (Expr-F.Cast z g a s) o d x at = value_bin e o d x at
  by_layer (Expr-F.Bin p a c s) o d x at = by_carry (carries o p && is_flag c) p o d a c x at

  pub updated_set : (v : Var) (o : BinOp) (x : Expr) → set_value e v (Some o) x ≡ updated_value e o (number (e (out-Var v).name (out-Var v).copy)) x
  updated_set v o x = by_layer (out-Expr x) o (expr.Var v) x (ref_of v).span ∙ ap (λ n. updated_value e o n x) (value_var e v)
