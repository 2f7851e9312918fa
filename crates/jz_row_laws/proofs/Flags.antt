-- A condition that has an instruction.
use Rattle.std.proofs.Common.{◌≡◌, Bool, true, false, refl, sym, ap, ◌∙◌, subst}
use Rattle.std.proofs.lemmas.Bool.{and_parts, false≢true}
use Rattle.jz_tree.specs.Operators.{joins}
use Rattle.jz_tree.specs.declared.expr.BinOp.{BinOp}
use Rattle.jz_tree.specs.declared.expr.BinOp.TheVariants as op
use Rattle.jz_tree.specs.declared.expr.Expr.{Expr}
use Rattle.jz_tree.specs.declared.expr.Ty.{Ty}
use Rattle.jz_tree.specs.declared.expr.Access.{Access}
use Rattle.jz_tree.specs.declared.expr.Decl.{Decl}
use Rattle.jz_tree.specs.declared.expr.Var.{Var}
use Rattle.jz_tree.specs.declared.expr.Expr.TheOpen.{Expr-F}
use Rattle.jz_tree.specs.declared.expr.Expr.TheViews.{roll-Expr}
use Rattle.jz_tree.specs.declared.expr.Expr.TheFolds.{map-Expr, para-roll-Expr, ind-Expr}
use Rattle.jz_select.specs.Look.{compares_values}
use Rattle.jz_select.specs.Rows.{is_rm, is_rmi}
use Rattle.jz_select.specs.Operands.{class_of}
use Rattle.jz_select.specs.Shapes.{TestLayer, flags_step, has_flags}
use Rattle.jz_meaning.specs.Shapes.{Sorts}
use Rattle.jz_row_laws.proofs.Fixed.{Layer, Fixed, FixedLayer, shape_is, both_fixed, class_fixed}
use Rattle.jz_row_laws.proofs.Copied.{rm_class}

abbrev paired : Layer → TestLayer
paired x = map-Expr _ _ _ _ _ _ _ _ _ _ (λ y. (y, has_flags y)) (λ y. (y, tt)) (λ y. (y, tt)) (λ y. (y, tt)) (λ y. (y, tt)) x

flags_rolled : (x : Layer) → has_flags (roll-Expr x) ≡ flags_step (paired x)
unfolding has_flags
flags_rolled x = para-roll-Expr Bool (Unit {0}) (Unit {0}) (Unit {0}) (Unit {0}) flags_step (λ x. tt) (λ x. tt) (λ x. tt) (λ x. tt) x

compares_join : (p : BinOp) → compares_values p ≡ true → joins p ≡ false
compares_join op.AndThen e = absurd (false≢true e)
compares_join op.OrElse e = absurd (false≢true e)
compares_join p e = refl

module _ (sorts : Sorts) where
  abbrev Law : Expr → Type 0
  Law e = has_flags e ≡ true → Fixed sorts e

  abbrev Proved : Type 0
  Proved = Expr-F ((e : Expr) × Law e) (Ty × Unit {0}) (Access × Unit {0}) (Decl × Unit {0}) (Var × Unit {0})

  abbrev bare : Proved → Layer
  bare y = map-Expr _ _ _ _ _ Expr Ty Access Decl Var (λ e. e.0) (λ e. e.0) (λ e. e.0) (λ e. e.0) (λ e. e.0) y

  layer_flags : (y : Proved) → flags_step (paired (bare y)) ≡ true → FixedLayer sorts (bare y)
  layer_flags (Expr-F.Num n at) h = refl
  layer_flags (Expr-F.Expr::Bool b at) h = refl
  layer_flags (Expr-F.Var v) h = refl
  layer_flags (Expr-F.Cell v i) h = absurd (false≢true h)
  layer_flags (Expr-F.Load a) h = absurd (false≢true h)
  layer_flags (Expr-F.Neg a at) h = absurd (false≢true h)
  layer_flags (Expr-F.Not a at) h = a.1 h
  layer_flags (Expr-F.Cast z s a at) h = absurd (false≢true h)
  layer_flags (Expr-F.Bin o a b at) h =
      let x = and_parts (compares_values o) _ h in
      let y = and_parts (is_rm (class_of a.0)) _ x.1 in
      let z = and_parts (is_rmi (class_of b.0)) _ y.1 in
      both_fixed sorts o a.0 b.0 at (compares_join o x.0) (class_fixed sorts a.0 (rm_class (class_of a.0) y.0)) (class_fixed sorts b.0 z.0)

  flags_case : (y : Proved) → Law (roll-Expr (bare y))
  flags_case y h = ap (λ s. s.fixed) (shape_is sorts (bare y)) ∙ layer_flags y (sym (flags_rolled (bare y)) ∙ h)

  pub flags_fixed : (e : Expr) → Law e
  flags_fixed =
      ind-Expr Law (λ t. Unit {0}) (λ a. Unit {0}) (λ d. Unit {0}) (λ v. Unit {0})
      (λ x y is. subst (λ z. Law (roll-Expr z)) is (flags_case y))
      (λ x y is. tt)
      (λ x y is. tt)
      (λ x y is. tt)
      (λ x y is. tt)
