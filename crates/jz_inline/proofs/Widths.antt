-- How many numbers an expression leaks is the same by what its variables are declared to be as by the sorts of its function.
use Rattle.std.proofs.Common.{◌≡◌, ◌+◌, true, refl, ap, sym, ◌∙◌, subst}
use Rattle.std.proofs.lemmas.Bool.{and_parts}
use Rattle.jz_tree.specs.declared.expr.Expr.{Expr}
use Rattle.jz_tree.specs.declared.expr.Ty.{Ty}
use Rattle.jz_tree.specs.declared.expr.Access.{Access}
use Rattle.jz_tree.specs.declared.expr.Decl.{Decl}
use Rattle.jz_tree.specs.declared.expr.Var.{Var}
use Rattle.jz_tree.specs.declared.expr.Expr.TheOpen.{Expr-F, Access-F, Var-F}
use Rattle.jz_tree.specs.declared.expr.Expr.TheViews.{roll-Expr, roll-Access, roll-Var, out-Var, roll-out-Var}
use Rattle.jz_tree.specs.declared.expr.Expr.TheFolds.{fold-Access, fold-Var, fold-roll-Expr, fold-roll-Access, fold-roll-Var, para-Access, para-roll-Expr, para-roll-Access, ind-Expr, map-Expr, map-Access}
use Rattle.jz_meaning.specs.Values.{Ref, ref_of, expr_step, ty_step, access_step, decl_step, var_step}
use Rattle.jz_meaning.specs.Shapes.{Sort, Shape, operation_shape, words, shape_step, shape_of}
use Rattle.jz_bodies.specs.Scopes.{Scope, is_over, is_access_over, IsScope}
use Rattle.jz_inline.specs.Widths.{Shapes, sort_declared, declared_step, declared_shape, width}
use Rattle.jz_inline.proofs.Reading.{Layer, over_layer, over_is, access_over_is}

abbrev pub declared_access : Access → Shape
declared_access = para-Access Shape (Unit {0}) Shape (Unit {0}) (Unit {0}) declared_step (λ t. tt) (λ a. a.at.1) (λ d. tt) (λ v. tt)

abbrev declared_layer : Layer → Shape
declared_layer y = shape_step (map-Expr _ _ _ _ _ Shape (Unit {0}) Shape (Unit {0}) Sort declared_shape (λ t. tt) declared_access (λ d. tt) sort_declared y)

abbrev paired : Layer → Shapes
paired y = map-Expr _ _ _ _ _ _ _ _ _ _ (λ e. (e, declared_shape e)) (λ t. (t, tt)) (λ a. (a, declared_access a)) (λ d. (d, tt)) (λ v. (v, tt)) y

layer_is : (y : Layer) → declared_step (paired y) ≡ declared_layer y
layer_is (Expr-F.Num n at) = refl
layer_is (Expr-F.Expr::Bool c at) = refl
layer_is (Expr-F.Var v) = refl
layer_is (Expr-F.Cell v e) = refl
layer_is (Expr-F.Load a) = refl
layer_is (Expr-F.Neg a at) = refl
layer_is (Expr-F.Not a at) = refl
layer_is (Expr-F.Cast z s a at) = refl
layer_is (Expr-F.Bin o a c at) = refl

pub declared_is : (y : Layer) → declared_shape (roll-Expr y) ≡ declared_layer y
declared_is y = para-roll-Expr Shape (Unit {0}) Shape (Unit {0}) (Unit {0}) declared_step (λ t. tt) (λ a. a.at.1) (λ d. tt) (λ v. tt) y ∙ layer_is y

pub access_is : (y : Access-F Expr Ty Access Decl Var) → declared_access (roll-Access y) ≡ declared_shape y.at
access_is y = para-roll-Access Shape (Unit {0}) Shape (Unit {0}) (Unit {0}) declared_step (λ t. tt) (λ a. a.at.1) (λ d. tt) (λ v. tt) y

module _ (x : Scope) (h : IsScope x) where
  abbrev shape_of_access : Access → Shape
  shape_of_access = fold-Access _ _ _ _ _ shape_step (λ t. tt) (λ a. a.at) (λ d. tt) (λ v. x.sorts v.name v.copy)

  abbrev sort_of_var : Var → Sort
  sort_of_var = fold-Var _ _ _ _ _ shape_step (λ t. tt) (λ a. a.at) (λ d. tt) (λ v. x.sorts v.name v.copy)

  rolled_sort : (y : Var-F Expr Ty Access Decl Var) → sort_of_var (roll-Var y) ≡ x.sorts (ref_of (roll-Var y)).name (ref_of (roll-Var y)).copy
  rolled_sort y =
      fold-roll-Var _ _ _ _ _ shape_step (λ t. tt) (λ a. a.at) (λ d. tt) (λ v. x.sorts v.name v.copy) y
      ∙ sym (ap (λ (r : Ref). x.sorts r.name r.copy) (fold-roll-Var _ _ _ _ _ expr_step ty_step access_step decl_step var_step y))

  var_sort : (v : Var) → sort_of_var v ≡ x.sorts (ref_of v).name (ref_of v).copy
  var_sort v = subst (λ u. sort_of_var u ≡ x.sorts (ref_of u).name (ref_of u).copy) (roll-out-Var v) (rolled_sort (out-Var v))

  abbrev shape_layer : Layer → Shape
  shape_layer y = shape_step (map-Expr _ _ _ _ _ Shape (Unit {0}) Shape (Unit {0}) Sort (shape_of x.sorts) (λ t. tt) shape_of_access (λ d. tt) sort_of_var y)

  shape_is : (y : Layer) → shape_of x.sorts (roll-Expr y) ≡ shape_layer y
  shape_is y = fold-roll-Expr _ _ _ _ _ shape_step (λ t. tt) (λ a. a.at) (λ d. tt) (λ v. x.sorts v.name v.copy) y

  abbrev ExprLaw : Expr → Type 0
  ExprLaw e = is_over x.has_scalar x.has_array e ≡ true → declared_shape e ≡ shape_of x.sorts e

  abbrev AccessLaw : Access → Type 0
  AccessLaw a = is_access_over x.has_scalar x.has_array a ≡ true → declared_access a ≡ shape_of_access a

  abbrev Any : {A : Type 0} → A → Type 0
  Any y = Unit {0}

  abbrev Known : Type 0
  Known = Expr-F ((e : Expr) × ExprLaw e) ((t : Ty) × Any t) ((a : Access) × AccessLaw a) ((d : Decl) × Any d) ((v : Var) × Any v)

  abbrev bare : Known → Layer
  bare y = map-Expr _ _ _ _ _ _ _ _ _ _ (λ e. e.0) (λ e. e.0) (λ e. e.0) (λ e. e.0) (λ e. e.0) y

  layer_law : (y : Known) → over_layer x.has_scalar x.has_array (bare y) ≡ true → declared_layer (bare y) ≡ shape_layer (bare y)
  layer_law (Expr-F.Num i at) known = refl
  layer_law (Expr-F.Expr::Bool c at) known = refl
  layer_law (Expr-F.Var v) known = ap (λ (z : Sort). let s : Shape = record { sort = z; count = 0; fixed = true } in s) (sym (h.sorted (ref_of v.0) known) ∙ sym (var_sort v.0))
  layer_law (Expr-F.Cell v e) known =
      let both = and_parts (x.has_array (ref_of v.0)) _ known in
      ap (λ (z : Sort). let s : Shape = record { sort = z; count = (declared_shape e.0).count + 1; fixed = (declared_shape e.0).fixed } in s) (sym (h.worded (ref_of v.0) both.0) ∙ sym (var_sort v.0))
      ∙ ap (λ (y : Shape). let s : Shape = record { sort = sort_of_var v.0; count = y.count + 1; fixed = y.fixed } in s) (e.1 both.1)
  layer_law (Expr-F.Load a) known = ap (λ (y : Shape). let s : Shape = record { sort = words; count = y.count + 1; fixed = y.fixed } in s) (a.1 known)
  layer_law (Expr-F.Neg e at) known = e.1 known
  layer_law (Expr-F.Not e at) known = e.1 known
  layer_law (Expr-F.Cast z sign e at) known = ap (λ (y : Shape). let s : Shape = record { sort = words; count = y.count; fixed = y.fixed } in s) (e.1 known)
  layer_law (Expr-F.Bin op a b at) known =
      let both = and_parts (is_over x.has_scalar x.has_array a.0) _ known in
      ap (λ y. operation_shape op y (declared_shape b.0)) (a.1 both.0) ∙ ap (operation_shape op (shape_of x.sorts a.0)) (b.1 both.1)

  expr_case : (y : Known) → ExprLaw (roll-Expr (bare y))
  expr_case y known = declared_is (bare y) ∙ layer_law y (sym (over_is x.has_scalar x.has_array (bare y)) ∙ known) ∙ sym (shape_is (bare y))

  access_case : (y : Access-F ((e : Expr) × ExprLaw e) ((t : Ty) × Any t) ((a : Access) × AccessLaw a) ((d : Decl) × Any d) ((v : Var) × Any v)) → AccessLaw (roll-Access (map-Access _ _ _ _ _ _ _ _ _ _ (λ e. e.0) (λ e. e.0) (λ e. e.0) (λ e. e.0) (λ e. e.0) y))
  access_case y known =
      let z = map-Access _ _ _ _ _ Expr Ty Access Decl Var (λ e. e.0) (λ e. e.0) (λ e. e.0) (λ e. e.0) (λ e. e.0) y in
      access_is z ∙ y.at.1 (sym (access_over_is x.has_scalar x.has_array z) ∙ known)
      ∙ sym (fold-roll-Access _ _ _ _ _ shape_step (λ t. tt) (λ a. a.at) (λ d. tt) (λ v. x.sorts v.name v.copy) z)

  same_shape : (e : Expr) → ExprLaw e
  same_shape =
      ind-Expr ExprLaw Any AccessLaw Any Any
      (λ z y is. subst (λ k. ExprLaw (roll-Expr k)) is (expr_case y))
      (λ z y is. tt)
      (λ z y is. subst (λ k. AccessLaw (roll-Access k)) is (access_case y))
      (λ z y is. tt)
      (λ z y is. tt)

  pub same_width : (e : Expr) → is_over x.has_scalar x.has_array e ≡ true → width e ≡ (shape_of x.sorts e).count
  same_width e known = ap (λ (s : Shape). s.count) (same_shape e known)
