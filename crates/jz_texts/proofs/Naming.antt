-- Each variable that a resolved function uses is one that it declares.
use Rattle.std.proofs.Common.{◌≡◌, ℕ, ℤ, List, [], ◌∷◌, ◌++◌, Bool, true, false, not, ◌&&◌, Option, Some, None, map, flat_map, refl, sym, ap, ◌∙◌, subst}
use Rattle.std.specs.Prelude.{pos, All, if◌then◌else◌}
use Rattle.std.proofs.lemmas.Bool.{false≢true}
use Rattle.std.proofs.lemmas.List.{map-append}
use Rattle.std.proofs.lemmas.List.Elements.{All-nil, All-cons, All-head, All-tail, All-append}
use Rattle.jz_tree.specs.Span.{Span}
use Rattle.jz_tree.specs.declared.expr.BinOp.TheVariants as op
use Rattle.jz_tree.specs.declared.expr.Expr.{Expr}
use Rattle.jz_tree.specs.declared.expr.Expr.TheVariants as expr
use Rattle.jz_tree.specs.declared.expr.Ty.{Ty}
use Rattle.jz_tree.specs.declared.expr.Access.{Access}
use Rattle.jz_tree.specs.declared.expr.Decl.{Decl}
use Rattle.jz_tree.specs.declared.expr.Var.{Var}
use Rattle.jz_tree.specs.declared.expr.Expr.TheOpen.{Expr-F}
use Rattle.jz_tree.specs.declared.expr.Expr.TheViews.{out-Var, out-Access, roll-Expr, roll-Ty, roll-Access, roll-out-Access, roll-Decl}
use Rattle.jz_tree.specs.declared.expr.Expr.TheFolds.{fold-roll-Expr, map-Expr, para-roll-Expr, para-Access, para-roll-Access, ind-Expr}
use Rattle.jz_tree.specs.declared.stmt.Lval.{Lval}
use Rattle.jz_tree.specs.declared.stmt.Lval.TheVariants as lval
use Rattle.jz_tree.specs.declared.stmt.Stmt.{Stmt}
use Rattle.jz_tree.specs.declared.stmt.StmtKind.TheOpen.{StmtKind-F}
use Rattle.jz_type_names.specs.Order.{earlier, is_before}
use Rattle.jz_type_names.specs.Scopes.{Name, name_of}
use Rattle.jz_type_names.specs.Parts.{Layer, layer_of, names_in, arrays_in, cells_step, Cells, cells_in, arrays_of, exprs_of, left_vars, set_by}
use Rattle.jz_type_names.specs.Names.{stands_above, is_constant}
use Rattle.jz_types.specs.Resolving.{number_or, expr_step, var_step, resolved_expr, resolved_access, resolved_var, resolved_lval, resolved_stmt}
use Rattle.jz_types.specs.Carried.{vars_in, used_by}
use Rattle.jz_types.proofs.NamesKept.{layer_names, names_at, var_kept, access_at, resolved_layer}
use Rattle.jz_types.proofs.StatementsKept.{set_layer, layer_resolved, exprs_kept}
use Rattle.jz_texts.proofs.Lists.{parted, unmapped}
use Rattle.jz_texts.proofs.Variables.{ExprLayer, layer_vars, vars_rolled, of_number, of_variable, of_operation}

-- ---- the names before an index, one layer at a time
cells_at : Access → Cells
cells_at = para-Access Cells (Unit {0}) Cells (Unit {0}) (Unit {0}) cells_step (λ t. tt) (λ a. a.at.1) (λ d. tt) (λ v. tt)

access_cells : (a : Access) → cells_at a ≡ cells_in (out-Access a).at
unfolding cells_at
access_cells a = ap cells_at (sym (roll-out-Access a)) ∙ para-roll-Access Cells (Unit {0}) Cells (Unit {0}) (Unit {0}) cells_step (λ t. tt) (λ a. a.at.1) (λ d. tt) (λ v. tt) (out-Access a)

abbrev layer_arrays : ExprLayer → List Name
layer_arrays (Expr-F.Num n at) = []
layer_arrays (Expr-F.Expr::Bool b at) = []
layer_arrays (Expr-F.Var v) = []
layer_arrays (Expr-F.Cell v i) = name_of v ∷ arrays_in i
layer_arrays (Expr-F.Load a) = arrays_in (out-Access a).at
layer_arrays (Expr-F.Neg a at) = arrays_in a
layer_arrays (Expr-F.Not a at) = arrays_in a
layer_arrays (Expr-F.Cast z s a at) = arrays_in a
layer_arrays (Expr-F.Bin o a b at) = arrays_in a ++ arrays_in b

abbrev paired : ExprLayer → Expr-F (Expr × Cells) (Ty × Unit {0}) (Access × Cells) (Decl × Unit {0}) (Var × Unit {0})
paired x = map-Expr _ _ _ _ _ _ _ _ _ _ (λ y. (y, cells_in y)) (λ y. (y, tt)) (λ y. (y, cells_at y)) (λ y. (y, tt)) (λ y. (y, tt)) x

cells_rolled : (x : ExprLayer) → cells_in (roll-Expr x) ≡ cells_step (paired x)
unfolding cells_at
cells_rolled x = para-roll-Expr Cells (Unit {0}) Cells (Unit {0}) (Unit {0}) cells_step (λ t. tt) (λ a. a.at.1) (λ d. tt) (λ v. tt) x

arrays_at : (x : ExprLayer) → arrays_in (roll-Expr x) ≡ layer_arrays x
arrays_at (Expr-F.Num n at) = ap arrays_of (cells_rolled (Expr-F.Num n at))
arrays_at (Expr-F.Expr::Bool b at) = ap arrays_of (cells_rolled (Expr-F.Expr::Bool b at))
arrays_at (Expr-F.Var v) = ap arrays_of (cells_rolled (Expr-F.Var v))
arrays_at (Expr-F.Cell v i) = ap arrays_of (cells_rolled (Expr-F.Cell v i))
arrays_at (Expr-F.Load a) = ap arrays_of (cells_rolled (Expr-F.Load a)) ∙ ap arrays_of (access_cells a)
arrays_at (Expr-F.Neg a at) = ap arrays_of (cells_rolled (Expr-F.Neg a at))
arrays_at (Expr-F.Not a at) = ap arrays_of (cells_rolled (Expr-F.Not a at))
arrays_at (Expr-F.Cast z s a at) = ap arrays_of (cells_rolled (Expr-F.Cast z s a at))
arrays_at (Expr-F.Bin o a b at) = ap arrays_of (cells_rolled (Expr-F.Bin o a b at)) ∙ map-append (λ c. name_of c.0) (cells_in a) (cells_in b)

-- ---- what is resolved
-- K holds of the names, V of those before an index; so P holds of the variables that are left
module _ (d : List ℕ → Option Decl) (n : Name → Option (Option ℤ)) (K V : Name → Type 0) (P : Var → Type 0)
    (plain : (v : Var) → K (name_of v) → n (name_of v) ≡ None → P (resolved_var d n v)) (array : (v : Var) → V (name_of v) → P (resolved_var d n v)) where
  abbrev R : Expr → Expr
  R = resolved_expr d n

  abbrev Law : Expr → Type 0
  Law e = All K (names_in e) → All V (arrays_in e) → All P (vars_in (R e))

  abbrev Proved : Type 0
  Proved = Expr-F ((e : Expr) × Law e) (Ty × Unit {0}) ((a : Access) × Law (out-Access a).at) (Decl × Unit {0}) (Var × Unit {0})

  abbrev bare : Proved → ExprLayer
  bare y = map-Expr _ _ _ _ _ Expr Ty Access Decl Var (λ e. e.0) (λ e. e.0) (λ e. e.0) (λ e. e.0) (λ e. e.0) y

  at_layer : (x : ExprLayer) → All P (layer_vars x) → All P (vars_in (roll-Expr x))
  at_layer x h = subst (All P) (sym (vars_rolled x)) h

  number_named : (k : Option (Option ℤ)) (w : Var) → (k ≡ None → P w) → All P (vars_in (number_or k w))
  number_named None w h = of_variable P w (h refl)
  number_named (Some (Some k)) w h = of_number P k (out-Var w).span
  number_named (Some None) w h =
      let at = (out-Var w).span in
      of_operation P op.Div (expr.Num (pos 1) at) (expr.Num (pos 0) at) at (of_number P (pos 1) at) (of_number P (pos 0) at)

  layer_named : (y : Proved) → All K (layer_names (bare y)) → All V (layer_arrays (bare y)) → All P (vars_in (expr_step d n (resolved_layer d n (bare y))))
  unfolding layer_vars
  layer_named (Expr-F.Num k at) h g = at_layer (Expr-F.Num k at) (All-nil P)
  layer_named (Expr-F.Expr::Bool b at) h g = at_layer (Expr-F.Expr::Bool b at) (All-nil P)
  layer_named (Expr-F.Var v) h g =
      number_named (n (name_of (resolved_var d n v.0))) (resolved_var d n v.0)
      (λ e. plain v.0 (All-head K (name_of v.0) [] h) (ap n (sym (var_kept d n v.0)) ∙ e))
  layer_named (Expr-F.Cell v i) h g =
      at_layer (Expr-F.Cell (resolved_var d n v.0) (R i.0))
      (All-cons P (resolved_var d n v.0) (vars_in (R i.0)) (array v.0 (All-head V (name_of v.0) (arrays_in i.0) g))
      (i.1 (All-tail K (name_of v.0) (names_in i.0) h) (All-tail V (name_of v.0) (arrays_in i.0) g)))
  layer_named (Expr-F.Load a) h g = at_layer (Expr-F.Load (resolved_access d n a.0)) (subst (λ e. All P (vars_in e)) (sym (access_at d n a.0)) (a.1 h g))
  layer_named (Expr-F.Neg a at) h g = at_layer (Expr-F.Neg (R a.0) at) (a.1 h g)
  layer_named (Expr-F.Not a at) h g = at_layer (Expr-F.Not (R a.0) at) (a.1 h g)
  layer_named (Expr-F.Cast z s a at) h g = at_layer (Expr-F.Cast z s (R a.0) at) (a.1 h g)
  layer_named (Expr-F.Bin o a b at) h g =
      let t = parted K (names_in a.0) (names_in b.0) h in
      let u = parted V (arrays_in a.0) (arrays_in b.0) g in
      at_layer (Expr-F.Bin o (R a.0) (R b.0) at) (All-append P (vars_in (R a.0)) (vars_in (R b.0)) (a.1 t.0 u.0) (b.1 t.1 u.1))

  expr_case : (y : Proved) → Law (roll-Expr (bare y))
  expr_case y h g =
      subst (λ e. All P (vars_in e)) (sym (fold-roll-Expr _ _ _ _ _ (expr_step d n) roll-Ty roll-Access roll-Decl (var_step d n) (bare y)))
      (layer_named y (subst (All K) (names_at (bare y)) h) (subst (All V) (arrays_at (bare y)) g))

  expr_named : (e : Expr) → Law e
  expr_named =
      ind-Expr Law (λ t. Unit {0}) (λ a. Law (out-Access a).at) (λ d. Unit {0}) (λ v. Unit {0})
      (λ x y is. subst (λ z. Law (roll-Expr z)) is (expr_case y))
      (λ x y is. tt)
      (λ x y is. subst (λ z. Law (out-Access (roll-Access z)).at) is y.at.1)
      (λ x y is. tt)
      (λ x y is. tt)

  all_named : (es : List Expr) → All K (flat_map names_in es) → All V (flat_map arrays_in es) → All P (flat_map vars_in (map R es))
  all_named [] h g = All-nil P
  all_named (e ∷ es) h g =
      let t = parted K (names_in e) (flat_map names_in es) h in
      let u = parted V (arrays_in e) (flat_map arrays_in es) g in
      All-append P (vars_in (R e)) (flat_map vars_in (map R es)) (expr_named e t.0 u.0) (all_named es t.1 u.1)

  -- ---- what is set
  abbrev Sets : Var → Type 0
  Sets v = V (name_of v)

  one_set : (v : Var) → All Sets (v ∷ []) → All P (resolved_var d n v ∷ [])
  one_set v h = All-cons P (resolved_var d n v) [] (array v (All-head Sets v [] h)) (All-nil P)

  left_named : (l : Lval) → All Sets (left_vars l) → All P (left_vars (resolved_lval d n l))
  left_named (lval.Skip at) h = All-nil P
  left_named (lval.Var v) h = one_set v h
  left_named (lval.Cell v i) h = one_set v h
  left_named (lval.Store a) h = All-nil P

  lefts_named : (ls : List Lval) → All Sets (flat_map left_vars ls) → All P (flat_map left_vars (map (resolved_lval d n) ls))
  lefts_named [] h = All-nil P
  lefts_named (l ∷ ls) h =
      let t = parted Sets (left_vars l) (flat_map left_vars ls) h in
      All-append P (left_vars (resolved_lval d n l)) (flat_map left_vars (map (resolved_lval d n) ls)) (left_named l t.0) (lefts_named ls t.1)

  set_named : (k : Layer) → All Sets (set_by k) → All P (set_by (set_layer d n k))
  set_named (StmtKind-F.Assign to o from cond) h = lefts_named to h
  set_named (StmtKind-F.If c a b) h = All-nil P
  set_named (StmtKind-F.While p c None) h = All-nil P
  set_named (StmtKind-F.While p c (Some b)) h = All-nil P
  set_named (StmtKind-F.For i from down to b) h = one_set i h
  set_named (StmtKind-F.Mark vs) h = All-nil P

  pub statement_named : (s : Stmt) → All K (flat_map names_in (exprs_of (layer_of s))) → All V (flat_map arrays_in (exprs_of (layer_of s))) → All V (map name_of (set_by (layer_of s)))
      → All P (used_by (layer_of (resolved_stmt d n s)))
  statement_named s h g k =
      subst (λ k. All P (used_by k)) (sym (layer_resolved d n s))
      (All-append P (flat_map vars_in (exprs_of (set_layer d n (layer_of s)))) (set_by (set_layer d n (layer_of s)))
      (subst (λ es. All P (flat_map vars_in es)) (sym (exprs_kept d n (layer_of s))) (all_named (exprs_of (layer_of s)) h g))
      (set_named (layer_of s) (unmapped V name_of (set_by (layer_of s)) k)))

  pub returns_named : (vs : List Var) → All V (map name_of vs) → All P (map (resolved_var d n) vs)
  returns_named [] h = All-nil P
  returns_named (v ∷ vs) h =
      All-cons P (resolved_var d n v) (map (resolved_var d n) vs) (array v (All-head V (name_of v) (map name_of vs) h)) (returns_named vs (All-tail V (name_of v) (map name_of vs) h))

-- ---- what is declared above, and is no constant
above_both : (x y : Option Span) (at : Span) → stands_above (earlier x y) at ≡ true → stands_above x at ≡ false → stands_above y at ≡ true
above_both None y at h k = h
above_both (Some a) None at h k = absurd (false≢true (sym k ∙ h))
above_both (Some a) (Some b) at h k = by_first (is_before b a) refl h
  where
    by_first : (c : Bool) → is_before b a ≡ c → stands_above (if c then Some b else Some a) at ≡ true → stands_above (Some b) at ≡ true
    by_first true e g = g
    by_first false e g = absurd (false≢true (sym k ∙ g))

none_of_if : {A : Type 0} (c : Bool) (x : A) → (if c then Some x else None) ≡ None → c ≡ false
none_of_if true x e = absurd (some_not x e)
  where
    some_not : {A : Type 0} (x : A) → Some x ≡ None → ⊥
    some_not x e = cc
none_of_if false x e = refl

either_above : (v c : Bool) → (not v && c) ≡ false → (v ≡ false → c ≡ true) → v ≡ true
either_above true c h k = refl
either_above false c h k = absurd (false≢true (sym h ∙ k refl))

-- a name that stands below one of these, and is no constant there, is a variable's
pub variable_above : (constants variables : List ℕ → Option Span) (value : Option ℤ) (m : Name)
    → stands_above (earlier (variables m.0) (constants m.0)) m.1 ≡ true → (if is_constant constants variables m then Some value else None) ≡ None
    → stands_above (variables m.0) m.1 ≡ true
variable_above constants variables value m h e =
    either_above (stands_above (variables m.0) m.1) (stands_above (constants m.0) m.1) (none_of_if (is_constant constants variables m) value e)
    (above_both (variables m.0) (constants m.0) m.1 h)
