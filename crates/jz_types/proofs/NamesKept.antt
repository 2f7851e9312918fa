-- The names in an expression that is resolved are among those that stood there.
use Rattle.std.proofs.Common.{◌≡◌, ℕ, ℤ, List, [], ◌∷◌, ◌++◌, Option, Some, None, sym, ap, ap₂, ◌∙◌, subst}
use Rattle.std.specs.Prelude.{pos, All}
use Rattle.std.proofs.lemmas.List.{map-append}
use Rattle.std.proofs.lemmas.List.Elements.{All-nil, All-cons, All-head, All-tail, All-append}
use Rattle.jz_tree.specs.declared.expr.BinOp.TheVariants as op
use Rattle.jz_tree.specs.declared.expr.Expr.{Expr}
use Rattle.jz_tree.specs.declared.expr.Expr.TheVariants as expr
use Rattle.jz_tree.specs.declared.expr.Ty.{Ty}
use Rattle.jz_tree.specs.declared.expr.Access.{Access}
use Rattle.jz_tree.specs.declared.expr.Decl.{Decl}
use Rattle.jz_tree.specs.declared.expr.Var.{Var}
use Rattle.jz_tree.specs.declared.expr.Expr.TheOpen.{Expr-F, Var-F}
use Rattle.jz_tree.specs.declared.expr.Expr.TheViews.{out-Var, out-Access, roll-Expr, roll-Ty, roll-Access, roll-out-Access, roll-Decl, out-roll-Var}
use Rattle.jz_tree.specs.declared.expr.Expr.TheFolds.{fold-roll-Expr, fold_out-Var, fold_out-Access, fold-Ty, fold-Decl, fold-Var, fold-Access, map-Expr, para-roll-Expr, para-Access, para-roll-Access, ind-Expr}
use Rattle.jz_type_names.specs.Scopes.{Name, name_of}
use Rattle.jz_type_names.specs.Parts.{names_step, names_in, cells_step, Cells, cells_in, arrays_of, arrays_in}
use Rattle.jz_resolve.specs.Resolving.{number_or, expr_step, var_step, resolved_expr, resolved_access, resolved_var}

abbrev Layer : Type 0
Layer = Expr-F Expr Ty Access Decl Var

-- ---- the names of a layer
var_named : Var → Name
var_named = fold-Var _ _ _ _ _ names_step (λ t. tt) (λ a. a.at) (λ d. tt) (λ v. (v.name, v.span))

access_named : Access → List Name
access_named = fold-Access _ _ _ _ _ names_step (λ t. tt) (λ a. a.at) (λ d. tt) (λ v. (v.name, v.span))

named_var : (v : Var) → var_named v ≡ name_of v
unfolding var_named
named_var v = fold_out-Var _ _ _ _ _ names_step (λ t. tt) (λ a. a.at) (λ d. tt) (λ v. (v.name, v.span)) v

named_access : (a : Access) → access_named a ≡ names_in (out-Access a).at
unfolding access_named
named_access a = fold_out-Access _ _ _ _ _ names_step (λ t. tt) (λ a. a.at) (λ d. tt) (λ v. (v.name, v.span)) a

abbrev pub layer_names : Layer → List Name
layer_names (Expr-F.Num n at) = []
layer_names (Expr-F.Expr::Bool b at) = []
layer_names (Expr-F.Var v) = name_of v ∷ []
layer_names (Expr-F.Cell v i) = name_of v ∷ names_in i
layer_names (Expr-F.Load a) = names_in (out-Access a).at
layer_names (Expr-F.Neg a at) = names_in a
layer_names (Expr-F.Not a at) = names_in a
layer_names (Expr-F.Cast z s a at) = names_in a
layer_names (Expr-F.Bin o a b at) = names_in a ++ names_in b

names_rolled : (x : Layer) → names_in (roll-Expr x) ≡ names_step (map-Expr _ _ _ _ _ (List Name) (Unit {0}) (List Name) (Unit {0}) Name names_in (fold-Ty _ _ _ _ _ names_step (λ t. tt) (λ a. a.at) (λ d. tt) (λ v. (v.name, v.span))) access_named (fold-Decl _ _ _ _ _ names_step (λ t. tt) (λ a. a.at) (λ d. tt) (λ v. (v.name, v.span))) var_named x)
unfolding var_named access_named
names_rolled x = fold-roll-Expr _ _ _ _ _ names_step (λ t. tt) (λ a. a.at) (λ d. tt) (λ v. (v.name, v.span)) x

pub names_at : (x : Layer) → names_in (roll-Expr x) ≡ layer_names x
names_at (Expr-F.Num n at) = names_rolled (Expr-F.Num n at)
names_at (Expr-F.Expr::Bool b at) = names_rolled (Expr-F.Expr::Bool b at)
names_at (Expr-F.Var v) = names_rolled (Expr-F.Var v) ∙ ap (λ (m : Name). m ∷ []) (named_var v)
names_at (Expr-F.Cell v i) = names_rolled (Expr-F.Cell v i) ∙ ap (λ (m : Name). m ∷ names_in i) (named_var v)
names_at (Expr-F.Load a) = names_rolled (Expr-F.Load a) ∙ named_access a
names_at (Expr-F.Neg a at) = names_rolled (Expr-F.Neg a at)
names_at (Expr-F.Not a at) = names_rolled (Expr-F.Not a at)
names_at (Expr-F.Cast z s a at) = names_rolled (Expr-F.Cast z s a at)
names_at (Expr-F.Bin o a b at) = names_rolled (Expr-F.Bin o a b at)

-- ---- the names before an index
cells_at : Access → Cells
cells_at = para-Access Cells (Unit {0}) Cells (Unit {0}) (Unit {0}) cells_step (λ t. tt) (λ a. a.at.1) (λ d. tt) (λ v. tt)

access_cells : (a : Access) → cells_at a ≡ cells_in (out-Access a).at
unfolding cells_at
access_cells a = ap cells_at (sym (roll-out-Access a)) ∙ para-roll-Access Cells (Unit {0}) Cells (Unit {0}) (Unit {0}) cells_step (λ t. tt) (λ a. a.at.1) (λ d. tt) (λ v. tt) (out-Access a)

layer_arrays : Layer → List Name
layer_arrays (Expr-F.Num n at) = []
layer_arrays (Expr-F.Expr::Bool b at) = []
layer_arrays (Expr-F.Var v) = []
layer_arrays (Expr-F.Cell v i) = name_of v ∷ arrays_in i
layer_arrays (Expr-F.Load a) = arrays_in (out-Access a).at
layer_arrays (Expr-F.Neg a at) = arrays_in a
layer_arrays (Expr-F.Not a at) = arrays_in a
layer_arrays (Expr-F.Cast z s a at) = arrays_in a
layer_arrays (Expr-F.Bin o a b at) = arrays_in a ++ arrays_in b

abbrev paired : Layer → Expr-F (Expr × Cells) (Ty × Unit {0}) (Access × Cells) (Decl × Unit {0}) (Var × Unit {0})
paired x = map-Expr _ _ _ _ _ _ _ _ _ _ (λ y. (y, cells_in y)) (λ y. (y, tt)) (λ y. (y, cells_at y)) (λ y. (y, tt)) (λ y. (y, tt)) x

cells_rolled : (x : Layer) → cells_in (roll-Expr x) ≡ cells_step (paired x)
unfolding cells_at
cells_rolled x = para-roll-Expr Cells (Unit {0}) Cells (Unit {0}) (Unit {0}) cells_step (λ t. tt) (λ a. a.at.1) (λ d. tt) (λ v. tt) x

arrays_at : (x : Layer) → arrays_in (roll-Expr x) ≡ layer_arrays x
unfolding layer_arrays
arrays_at (Expr-F.Num n at) = ap arrays_of (cells_rolled (Expr-F.Num n at))
arrays_at (Expr-F.Expr::Bool b at) = ap arrays_of (cells_rolled (Expr-F.Expr::Bool b at))
arrays_at (Expr-F.Var v) = ap arrays_of (cells_rolled (Expr-F.Var v))
arrays_at (Expr-F.Cell v i) = ap arrays_of (cells_rolled (Expr-F.Cell v i))
arrays_at (Expr-F.Load a) = ap arrays_of (cells_rolled (Expr-F.Load a)) ∙ ap arrays_of (access_cells a)
arrays_at (Expr-F.Neg a at) = ap arrays_of (cells_rolled (Expr-F.Neg a at))
arrays_at (Expr-F.Not a at) = ap arrays_of (cells_rolled (Expr-F.Not a at))
arrays_at (Expr-F.Cast z s a at) = ap arrays_of (cells_rolled (Expr-F.Cast z s a at))
arrays_at (Expr-F.Bin o a b at) = ap arrays_of (cells_rolled (Expr-F.Bin o a b at)) ∙ map-append (λ c. name_of c.0) (cells_in a) (cells_in b)

-- ---- lists
pub All-parts : (P : Name → Type 0) (xs ys : List Name) → All P (xs ++ ys) → All P xs × All P ys
All-parts P [] ys h = (All-nil P, h)
All-parts P (x ∷ xs) ys h =
    let rest = All-parts P xs ys (All-tail P x (xs ++ ys) h) in
    (All-cons P x xs (All-head P x (xs ++ ys) h) rest.0, rest.1)

pub All-both : (P : Name → Type 0) (as' bs xs ys : List Name) → (All P as' → All P xs) → (All P bs → All P ys) → All P (as' ++ bs) → All P (xs ++ ys)
All-both P as' bs xs ys f g h = let parts = All-parts P as' bs h in All-append P xs ys (f parts.0) (g parts.1)

-- ---- what is resolved
module _ (d : List ℕ → Option Decl) (n : Name → Option (Option ℤ)) where
  abbrev R : Expr → Expr
  R = resolved_expr d n

  pub var_kept : (v : Var) → name_of (resolved_var d n v) ≡ name_of v
  var_kept v =
      ap name_of (fold_out-Var _ _ _ _ _ (expr_step d n) roll-Ty roll-Access roll-Decl (var_step d n) v)
      ∙ ap (λ (y : Var-F Expr Ty Access Decl Var). (y.name, y.span)) (out-roll-Var _)

  pub access_at : (a : Access) → (out-Access (resolved_access d n a)).at ≡ R (out-Access a).at
  access_at a = ap (λ b. (out-Access b).at) (fold_out-Access _ _ _ _ _ (expr_step d n) roll-Ty roll-Access roll-Decl (var_step d n) a)

  abbrev pub resolved_layer : Layer → Layer
  resolved_layer x =
      map-Expr _ _ _ _ _ Expr Ty Access Decl Var R
      (fold-Ty _ _ _ _ _ (expr_step d n) roll-Ty roll-Access roll-Decl (var_step d n)) (resolved_access d n)
      (fold-Decl _ _ _ _ _ (expr_step d n) roll-Ty roll-Access roll-Decl (var_step d n)) (resolved_var d n) x

  -- P holds of the names, and Q of those before an index
  module _ (P Q : Name → Type 0) where
    abbrev Keeps : Expr → Expr → Type 0
    Keeps e f = (All P (names_in e) → All P (names_in f)) × (All Q (arrays_in e) → All Q (arrays_in f))

    abbrev Law : Expr → Type 0
    Law e = Keeps e (R e)

    abbrev Proved : Type 0
    Proved = Expr-F ((e : Expr) × Law e) (Ty × Unit {0}) ((a : Access) × Law (out-Access a).at) (Decl × Unit {0}) (Var × Unit {0})

    abbrev bare : Proved → Layer
    bare y = map-Expr _ _ _ _ _ Expr Ty Access Decl Var (λ e. e.0) (λ e. e.0) (λ e. e.0) (λ e. e.0) (λ e. e.0) y

    rolled : (x z : Layer) → (All P (layer_names x) → All P (layer_names z)) → (All Q (layer_arrays x) → All Q (layer_arrays z)) → Keeps (roll-Expr x) (roll-Expr z)
    rolled x z f g = (λ h. subst (All P) (sym (names_at z)) (f (subst (All P) (names_at x) h)), λ h. subst (All Q) (sym (arrays_at z)) (g (subst (All Q) (arrays_at x) h)))

    -- what stands for a constant has no name
    number_keeps : (k : Option (Option ℤ)) (v w : Var) → name_of w ≡ name_of v → Keeps (roll-Expr (Expr-F.Var v)) (number_or k w)
    unfolding layer_arrays
    number_keeps None v w e =
        subst (λ f. Keeps (roll-Expr (Expr-F.Var v)) f) (expr.rolls-Var w)
        (rolled (Expr-F.Var v) (Expr-F.Var w) (λ h. subst (λ m. All P (m ∷ [])) (sym e) h) (λ h. h))
    number_keeps (Some (Some k)) v w e =
        subst (λ f. Keeps (roll-Expr (Expr-F.Var v)) f) (expr.rolls-Num k (out-Var w).span)
        (rolled (Expr-F.Var v) (Expr-F.Num k (out-Var w).span) (λ h. All-nil P) (λ h. h))
    number_keeps (Some None) v w e =
        let at = (out-Var w).span in
        let one = expr.Num (pos 1) at in
        let none = expr.Num (pos 0) at in
        let no_names : (k : ℤ) → names_in (expr.Num k at) ≡ [] = λ k. ap names_in (sym (expr.rolls-Num k at)) ∙ names_at (Expr-F.Num k at) in
        let no_arrays : (k : ℤ) → arrays_in (expr.Num k at) ≡ [] = λ k. ap arrays_in (sym (expr.rolls-Num k at)) ∙ arrays_at (Expr-F.Num k at) in
        subst (λ f. Keeps (roll-Expr (Expr-F.Var v)) f) (expr.rolls-Bin op.Div one none at)
        (rolled (Expr-F.Var v) (Expr-F.Bin op.Div one none at)
        (λ h. subst (All P) (sym (ap₂ (λ a b. a ++ b) (no_names (pos 1)) (no_names (pos 0)))) (All-nil P))
        (λ h. subst (All Q) (sym (ap₂ (λ a b. a ++ b) (no_arrays (pos 1)) (no_arrays (pos 0)))) (All-nil Q)))

    layer_keeps : (y : Proved) → Keeps (roll-Expr (bare y)) (expr_step d n (resolved_layer (bare y)))
    unfolding layer_arrays
    layer_keeps (Expr-F.Num k at) = rolled _ _ (λ h. h) (λ h. h)
    layer_keeps (Expr-F.Expr::Bool b at) = rolled _ _ (λ h. h) (λ h. h)
    layer_keeps (Expr-F.Var v) = number_keeps (n (name_of (resolved_var d n v.0))) v.0 (resolved_var d n v.0) (var_kept v.0)
    layer_keeps (Expr-F.Cell v i) =
        rolled (Expr-F.Cell v.0 i.0) (Expr-F.Cell (resolved_var d n v.0) (R i.0))
        (λ h. subst (λ m. All P (m ∷ names_in (R i.0))) (sym (var_kept v.0)) (All-cons P (name_of v.0) (names_in (R i.0)) (All-head P (name_of v.0) (names_in i.0) h) (i.1.0 (All-tail P (name_of v.0) (names_in i.0) h))))
        (λ h. subst (λ m. All Q (m ∷ arrays_in (R i.0))) (sym (var_kept v.0)) (All-cons Q (name_of v.0) (arrays_in (R i.0)) (All-head Q (name_of v.0) (arrays_in i.0) h) (i.1.1 (All-tail Q (name_of v.0) (arrays_in i.0) h))))
    layer_keeps (Expr-F.Load a) =
        rolled (Expr-F.Load a.0) (Expr-F.Load (resolved_access d n a.0))
        (λ h. subst (λ e. All P (names_in e)) (sym (access_at a.0)) (a.1.0 h))
        (λ h. subst (λ e. All Q (arrays_in e)) (sym (access_at a.0)) (a.1.1 h))
    layer_keeps (Expr-F.Neg a at) = rolled (Expr-F.Neg a.0 at) (Expr-F.Neg (R a.0) at) a.1.0 a.1.1
    layer_keeps (Expr-F.Not a at) = rolled (Expr-F.Not a.0 at) (Expr-F.Not (R a.0) at) a.1.0 a.1.1
    layer_keeps (Expr-F.Cast z s a at) = rolled (Expr-F.Cast z s a.0 at) (Expr-F.Cast z s (R a.0) at) a.1.0 a.1.1
    layer_keeps (Expr-F.Bin o a b at) =
        rolled (Expr-F.Bin o a.0 b.0 at) (Expr-F.Bin o (R a.0) (R b.0) at)
        (All-both P (names_in a.0) (names_in b.0) (names_in (R a.0)) (names_in (R b.0)) a.1.0 b.1.0)
        (All-both Q (arrays_in a.0) (arrays_in b.0) (arrays_in (R a.0)) (arrays_in (R b.0)) a.1.1 b.1.1)

    expr_case : (y : Proved) → Law (roll-Expr (bare y))
    expr_case y = subst (λ f. Keeps (roll-Expr (bare y)) f) (sym (fold-roll-Expr _ _ _ _ _ (expr_step d n) roll-Ty roll-Access roll-Decl (var_step d n) (bare y))) (layer_keeps y)

    pub keeps : (e : Expr) → Law e
    keeps =
        ind-Expr Law (λ t. Unit {0}) (λ a. Law (out-Access a).at) (λ d. Unit {0}) (λ v. Unit {0})
        (λ x y is. subst (λ z. Law (roll-Expr z)) is (expr_case y))
        (λ x y is. tt)
        (λ x y is. subst (λ z. Law (out-Access (roll-Access z)).at) is y.at.1)
        (λ x y is. tt)
        (λ x y is. tt)
