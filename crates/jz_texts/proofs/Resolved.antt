-- A program of a text is one still where it is resolved.
use Rattle.std.proofs.Common.{◌≡◌, ℕ, ℤ, List, [], ◌∷◌, Option, Some, None, map, flat_map, refl, sym, ap, ◌∙◌, subst}
use Rattle.std.specs.Prelude.{pos, All, AllPairs, is_some, option_map}
use Rattle.std.proofs.lemmas.List.Elements.{All-nil, All-cons, All-head, All-tail, All-append, All-map, All-weaker}
use Rattle.jz_tree.specs.declared.expr.BinOp.TheVariants as op
use Rattle.jz_tree.specs.declared.expr.Expr.{Expr}
use Rattle.jz_tree.specs.declared.expr.Expr.TheVariants as expr
use Rattle.jz_tree.specs.declared.expr.Ty.{Ty}
use Rattle.jz_tree.specs.declared.expr.Access.{Access}
use Rattle.jz_tree.specs.declared.expr.Decl.{Decl}
use Rattle.jz_tree.specs.declared.expr.Var.{Var}
use Rattle.jz_tree.specs.declared.expr.Expr.TheOpen.{Expr-F, Var-F}
use Rattle.jz_tree.specs.declared.expr.Expr.TheViews.{out-Var, out-Access, roll-Expr, roll-Ty, roll-Access, roll-Decl, out-roll-Var}
use Rattle.jz_tree.specs.declared.expr.Expr.TheFolds.{fold-roll-Expr, fold_out-Var, map-Expr, ind-Expr}
use Rattle.jz_tree.specs.declared.stmt.Lval.{Lval}
use Rattle.jz_tree.specs.declared.stmt.Lval.TheVariants as lval
use Rattle.jz_tree.specs.declared.stmt.Stmt.{Stmt}
use Rattle.jz_tree.specs.declared.stmt.StmtKind.TheOpen.{StmtKind-F}
use Rattle.jz_tree.specs.declared.program.Fun.{Fun}
use Rattle.jz_tree.specs.declared.program.Program.{Program}
use Rattle.jz_type_names.specs.Order.{Before}
use Rattle.jz_type_names.specs.Scopes.{Name, name_of, PlacesByName, variables_of, constant_place}
use Rattle.jz_type_names.specs.Parts.{Layer, layer_of, exprs_of, left_vars, set_by, statements_of}
use Rattle.jz_types.specs.Resolving.{number_or, expr_step, var_step, resolved_expr, resolved_access, resolved_var, resolved_lval, resolved_stmt}
use Rattle.jz_types.specs.Numbering.{Values, values_of, declaration_in, number_in}
use Rattle.jz_types.specs.ResolvePrograms.{counted_decl, counted_var, counted_fun, resolved_whole}
use Rattle.jz_types.proofs.Spans.{body_resolved}
use Rattle.jz_types.specs.Carried.{vars_in, used_by}
use Rattle.jz_types.proofs.NamesKept.{access_at, resolved_layer}
use Rattle.jz_types.proofs.StatementsKept.{set_layer, layer_resolved, exprs_kept}
use Rattle.jz_types.proofs.ProgramsKept.{var_out, variables_counted}
use Rattle.jz_texts.specs.Texts.{IsPlain, HasDecl, IsUnmarked, StandsBefore, IsTextFun, ResolvedLaw}
use Rattle.jz_texts.proofs.Lists.{parted, pairs_map}
use Rattle.jz_texts.proofs.Variables.{ExprLayer, layer_vars, vars_rolled, of_number, of_variable, of_operation}

abbrev VarLayer : Type 0
VarLayer = Var-F Expr Ty Access Decl Var

-- ---- expressions
-- P holds of each variable that is resolved, where Q holds of it
module _ (d : List ℕ → Option Decl) (n : Name → Option (Option ℤ)) (P Q : Var → Type 0) (each : (v : Var) → Q v → P (resolved_var d n v)) where
  abbrev R : Expr → Expr
  R = resolved_expr d n

  abbrev Law : Expr → Type 0
  Law e = All Q (vars_in e) → All P (vars_in (R e))

  abbrev Proved : Type 0
  Proved = Expr-F ((e : Expr) × Law e) (Ty × Unit {0}) ((a : Access) × Law (out-Access a).at) (Decl × Unit {0}) (Var × Unit {0})

  abbrev bare : Proved → ExprLayer
  bare y = map-Expr _ _ _ _ _ Expr Ty Access Decl Var (λ e. e.0) (λ e. e.0) (λ e. e.0) (λ e. e.0) (λ e. e.0) y

  at_layer : (x : ExprLayer) → All P (layer_vars x) → All P (vars_in (roll-Expr x))
  at_layer x h = subst (All P) (sym (vars_rolled x)) h

  number_kept : (k : Option (Option ℤ)) (w : Var) → P w → All P (vars_in (number_or k w))
  number_kept None w h = of_variable P w h
  number_kept (Some (Some k)) w h = of_number P k (out-Var w).span
  number_kept (Some None) w h =
      let at = (out-Var w).span in
      of_operation P op.Div (expr.Num (pos 1) at) (expr.Num (pos 0) at) at (of_number P (pos 1) at) (of_number P (pos 0) at)

  layer_kept : (y : Proved) → All Q (layer_vars (bare y)) → All P (vars_in (expr_step d n (resolved_layer d n (bare y))))
  unfolding layer_vars
  layer_kept (Expr-F.Num k at) h = at_layer (Expr-F.Num k at) (All-nil P)
  layer_kept (Expr-F.Expr::Bool b at) h = at_layer (Expr-F.Expr::Bool b at) (All-nil P)
  layer_kept (Expr-F.Var v) h = number_kept (n (name_of (resolved_var d n v.0))) (resolved_var d n v.0) (each v.0 (All-head Q v.0 [] h))
  layer_kept (Expr-F.Cell v i) h =
      at_layer (Expr-F.Cell (resolved_var d n v.0) (R i.0))
      (All-cons P (resolved_var d n v.0) (vars_in (R i.0)) (each v.0 (All-head Q v.0 (vars_in i.0) h)) (i.1 (All-tail Q v.0 (vars_in i.0) h)))
  layer_kept (Expr-F.Load a) h = at_layer (Expr-F.Load (resolved_access d n a.0)) (subst (λ e. All P (vars_in e)) (sym (access_at d n a.0)) (a.1 h))
  layer_kept (Expr-F.Neg a at) h = at_layer (Expr-F.Neg (R a.0) at) (a.1 h)
  layer_kept (Expr-F.Not a at) h = at_layer (Expr-F.Not (R a.0) at) (a.1 h)
  layer_kept (Expr-F.Cast z s a at) h = at_layer (Expr-F.Cast z s (R a.0) at) (a.1 h)
  layer_kept (Expr-F.Bin o a b at) h =
      let t = parted Q (vars_in a.0) (vars_in b.0) h in
      at_layer (Expr-F.Bin o (R a.0) (R b.0) at) (All-append P (vars_in (R a.0)) (vars_in (R b.0)) (a.1 t.0) (b.1 t.1))

  expr_case : (y : Proved) → Law (roll-Expr (bare y))
  expr_case y h =
      subst (λ e. All P (vars_in e)) (sym (fold-roll-Expr _ _ _ _ _ (expr_step d n) roll-Ty roll-Access roll-Decl (var_step d n) (bare y)))
      (layer_kept y (subst (All Q) (vars_rolled (bare y)) h))

  pub expr_kept : (e : Expr) → Law e
  expr_kept =
      ind-Expr Law (λ t. Unit {0}) (λ a. Law (out-Access a).at) (λ d. Unit {0}) (λ v. Unit {0})
      (λ x y is. subst (λ z. Law (roll-Expr z)) is (expr_case y))
      (λ x y is. tt)
      (λ x y is. subst (λ z. Law (out-Access (roll-Access z)).at) is y.at.1)
      (λ x y is. tt)
      (λ x y is. tt)

  -- ---- statements
  all_kept : (es : List Expr) → All Q (flat_map vars_in es) → All P (flat_map vars_in (map R es))
  all_kept [] h = All-nil P
  all_kept (e ∷ es) h =
      let t = parted Q (vars_in e) (flat_map vars_in es) h in
      All-append P (vars_in (R e)) (flat_map vars_in (map R es)) (expr_kept e t.0) (all_kept es t.1)

  one_kept : (v : Var) → All Q (v ∷ []) → All P (resolved_var d n v ∷ [])
  one_kept v h = All-cons P (resolved_var d n v) [] (each v (All-head Q v [] h)) (All-nil P)

  left_kept : (l : Lval) → All Q (left_vars l) → All P (left_vars (resolved_lval d n l))
  left_kept (lval.Skip at) h = All-nil P
  left_kept (lval.Var v) h = one_kept v h
  left_kept (lval.Cell v i) h = one_kept v h
  left_kept (lval.Store a) h = All-nil P

  lefts_kept : (ls : List Lval) → All Q (flat_map left_vars ls) → All P (flat_map left_vars (map (resolved_lval d n) ls))
  lefts_kept [] h = All-nil P
  lefts_kept (l ∷ ls) h =
      let t = parted Q (left_vars l) (flat_map left_vars ls) h in
      All-append P (left_vars (resolved_lval d n l)) (flat_map left_vars (map (resolved_lval d n) ls)) (left_kept l t.0) (lefts_kept ls t.1)

  set_kept : (k : Layer) → All Q (set_by k) → All P (set_by (set_layer d n k))
  set_kept (StmtKind-F.Assign to o from cond) h = lefts_kept to h
  set_kept (StmtKind-F.If c a b) h = All-nil P
  set_kept (StmtKind-F.While p c None) h = All-nil P
  set_kept (StmtKind-F.While p c (Some b)) h = All-nil P
  set_kept (StmtKind-F.For i from down to b) h = one_kept i h
  set_kept (StmtKind-F.Mark vs) h = All-nil P

  pub statement_kept : (s : Stmt) → All Q (used_by (layer_of s)) → All P (used_by (layer_of (resolved_stmt d n s)))
  statement_kept s h =
      let t = parted Q (flat_map vars_in (exprs_of (layer_of s))) (set_by (layer_of s)) h in
      subst (λ k. All P (used_by k)) (sym (layer_resolved d n s))
      (All-append P (flat_map vars_in (exprs_of (set_layer d n (layer_of s)))) (set_by (set_layer d n (layer_of s)))
      (subst (λ es. All P (flat_map vars_in es)) (sym (exprs_kept d n (layer_of s))) (all_kept (exprs_of (layer_of s)) t.0))
      (set_kept (layer_of s) t.1))

  pub results_kept : (vs : List Var) → All Q vs → All P (map (resolved_var d n) vs)
  results_kept vs h = All-map P (resolved_var d n) vs (All-weaker Q (λ v. P (resolved_var d n v)) each vs h)

-- ---- variables
module _ (d : List ℕ → Option Decl) (n : Name → Option (Option ℤ)) where
  out_resolved : (v : Var) → out-Var (resolved_var d n v) ≡ record (out-Var v) { decl = d (out-Var v).name }
  out_resolved v = ap out-Var (fold_out-Var _ _ _ _ _ (expr_step d n) roll-Ty roll-Access roll-Decl (var_step d n) v) ∙ out-roll-Var _

  pub plain_kept : (v : Var) → IsPlain v → IsPlain (resolved_var d n v)
  plain_kept v h = (ap (λ (y : VarLayer). y.copy) (out_resolved v) ∙ h.0, ap (λ (y : VarLayer). y.cell) (out_resolved v) ∙ h.1)

  unmarked_layer : (k : Layer) → IsUnmarked k → IsUnmarked (set_layer d n k)
  unmarked_layer (StmtKind-F.Assign to o from cond) h = tt
  unmarked_layer (StmtKind-F.If c a b) h = tt
  unmarked_layer (StmtKind-F.While p c None) h = tt
  unmarked_layer (StmtKind-F.While p c (Some b)) h = tt
  unmarked_layer (StmtKind-F.For i from down to b) h = tt
  unmarked_layer (StmtKind-F.Mark vs) h = h

  unmarked_kept : (s : Stmt) → IsUnmarked (layer_of s) → IsUnmarked (layer_of (resolved_stmt d n s))
  unmarked_kept s h = subst IsUnmarked (sym (layer_resolved d n s)) (unmarked_layer (layer_of s) h)

-- with numbers as lengths
module _ (values : Values) where
  counted_plain : (v : Var) → IsPlain v → IsPlain (counted_var values v)
  counted_plain v h = (ap (λ (y : VarLayer). y.copy) (var_out values v) ∙ h.0, ap (λ (y : VarLayer). y.cell) (var_out values v) ∙ h.1)

  still_some : (o : Option Decl) → is_some (option_map (counted_decl values) o) ≡ is_some o
  still_some None = refl
  still_some (Some d) = refl

  counted_has : (v : Var) → HasDecl v → HasDecl (counted_var values v)
  counted_has v h = ap (λ (y : VarLayer). is_some y.decl) (var_out values v) ∙ still_some (out-Var v).decl ∙ h

  counted_before : (v w : Var) → StandsBefore v w → StandsBefore (counted_var values v) (counted_var values w)
  counted_before v w h =
      subst (λ (y : VarLayer). Before y.span (out-Var (counted_var values w)).span) (sym (var_out values v))
      (subst (λ (y : VarLayer). Before (out-Var v).span y.span) (sym (var_out values w)) h)

-- ---- functions
module _ (p : Program) where
  abbrev places : PlacesByName
  places = constant_place p.consts

  abbrev values : Values
  values = values_of p.consts

  abbrev D : Fun → List ℕ → Option Decl
  D f = declaration_in places (variables_of (counted_fun values f))

  abbrev N : Fun → Name → Option (Option ℤ)
  N f = number_in places values (variables_of (counted_fun values f))

  abbrev pub H : Fun → Fun
  H = resolved_whole places values

  -- the variables that it declares
  pub variables_are : (f : Fun) → variables_of (H f) ≡ map (counted_var values) (variables_of f)
  variables_are f = variables_counted values f

  pub in_variables : (f : Fun) (P : Var → Type 0) → All (λ v. P (counted_var values v)) (variables_of f) → All P (variables_of (H f))
  in_variables f P h = subst (All P) (sym (variables_are f)) (All-map P (counted_var values) (variables_of f) h)

  pub in_statements : (f : Fun) (P : Stmt → Type 0) → All (λ s. P (resolved_stmt (D f) (N f) s)) (statements_of f.body) → All P (statements_of (H f).body)
  in_statements f P h = subst (All P) (sym (body_resolved (D f) (N f) f.body)) (All-map P (resolved_stmt (D f) (N f)) (statements_of f.body) h)

  fun_stays : (f : Fun) → IsTextFun f → IsTextFun (H f)
  fun_stays f h =
      record {
        declared = in_variables f IsPlain (All-weaker IsPlain (λ v. IsPlain (counted_var values v)) (counted_plain values) (variables_of f) h.declared);
        declarations = in_variables f HasDecl (All-weaker HasDecl (λ v. HasDecl (counted_var values v)) (counted_has values) (variables_of f) h.declarations);
        ascending =
            subst (AllPairs StandsBefore) (sym (variables_are f))
            (pairs_map StandsBefore (counted_var values) (variables_of f) (λ i j e lt within. counted_before values _ _ (h.ascending i j e lt within)));
        used = (
          in_statements f (λ s. All IsPlain (used_by (layer_of s)))
              (All-weaker (λ s. All IsPlain (used_by (layer_of s))) (λ s. All IsPlain (used_by (layer_of (resolved_stmt (D f) (N f) s))))
              (statement_kept (D f) (N f) IsPlain IsPlain (plain_kept (D f) (N f))) (statements_of f.body) h.used.0),
          results_kept (D f) (N f) IsPlain IsPlain (plain_kept (D f) (N f)) f.result h.used.1,
        );
        unmarked =
            in_statements f (λ s. IsUnmarked (layer_of s))
            (All-weaker (λ s. IsUnmarked (layer_of s)) (λ s. IsUnmarked (layer_of (resolved_stmt (D f) (N f) s))) (unmarked_kept (D f) (N f)) (statements_of f.body) h.unmarked);
      }

pub stays : ResolvedLaw
stays p h = All-map IsTextFun (H p) p.funs (All-weaker IsTextFun (λ f. IsTextFun (H p f)) (fun_stays p) p.funs h)
