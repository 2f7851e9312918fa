-- Variables of a resolved program carry the declarations of their names.
use Rattle.std.proofs.Common.{◌≡◌, ℕ, ℤ, List, [], ◌∷◌, ◌++◌, Option, Some, None, map, flat_map, refl, sym, ap, ap₂, ◌∙◌, subst, cond}
use Rattle.std.specs.Prelude.{pos, All, option_map, option_and_then}
use Rattle.std.proofs.lemmas.List.Elements.{All-nil, All-cons, All-append, All-map, All-weaker}
use Rattle.std.specs.Option.{option_or}
use Rattle.jz_tree.specs.declared.expr.BinOp.TheVariants as op
use Rattle.jz_tree.specs.declared.expr.Expr.{Expr}
use Rattle.jz_tree.specs.declared.expr.Expr.TheVariants as expr
use Rattle.jz_tree.specs.declared.expr.Ty.{Ty}
use Rattle.jz_tree.specs.declared.expr.Access.{Access}
use Rattle.jz_tree.specs.declared.expr.Decl.{Decl}
use Rattle.jz_tree.specs.declared.expr.Var.{Var}
use Rattle.jz_tree.specs.declared.expr.Expr.TheOpen.{Expr-F, Var-F}
use Rattle.jz_tree.specs.declared.expr.Expr.TheViews.{out-Var, out-Access, roll-Expr, roll-Ty, roll-Access, roll-out-Access, roll-Decl, out-roll-Var}
use Rattle.jz_tree.specs.declared.expr.Expr.TheFolds.{fold-roll-Expr, fold_out-Var, map-Expr, para-roll-Expr, para-Access, para-roll-Access, ind-Expr}
use Rattle.jz_tree.specs.declared.stmt.Lval.{Lval}
use Rattle.jz_tree.specs.declared.stmt.Lval.TheVariants as lval
use Rattle.jz_tree.specs.declared.stmt.Stmt.{Stmt}
use Rattle.jz_tree.specs.declared.stmt.StmtKind.TheOpen.{StmtKind-F}
use Rattle.jz_tree.specs.declared.program.Fun.{Fun}
use Rattle.jz_tree.specs.declared.program.Program.{Program}
use Rattle.jz_type_names.specs.Scopes.{Name, name_of, PlacesByName, variables_of, variable_named, constant_place}
use Rattle.jz_type_names.specs.Kinds.{declared_of}
use Rattle.jz_type_names.specs.Parts.{Layer, layer_of, exprs_of, left_vars, set_by, statements_of}
use Rattle.jz_resolve.specs.Resolving.{number_or, expr_step, var_step, resolved_expr, resolved_access, resolved_var, resolved_lval, resolved_stmt}
use Rattle.jz_resolve.specs.Numbering.{Values, values_of, constant_decl, declaration_in, number_in}
use Rattle.jz_resolve.specs.Programs.{counted_var, counted_fun}
use Rattle.jz_resolve.proofs.Spans.{body_resolved}
use Rattle.jz_types.specs.Carried.{vars_step, vars_in, used_by, EachUsed, Carries, IsKnownAs, known_in, resolved_of}
use Rattle.jz_types.proofs.NamesKept.{access_at, resolved_layer}
use Rattle.jz_types.proofs.StatementsKept.{set_layer, layer_resolved, exprs_kept}
use Rattle.jz_types.proofs.ProgramsKept.{find_kept, var_name, var_out, variables_counted, decl_known}

abbrev ExprLayer : Type 0
ExprLayer = Expr-F Expr Ty Access Decl Var

-- ---- the variables of a layer
vars_at : Access → List Var
vars_at = para-Access (List Var) (Unit {0}) (List Var) (Unit {0}) (Unit {0}) vars_step (λ t. tt) (λ a. a.at.1) (λ d. tt) (λ v. tt)

access_vars : (a : Access) → vars_at a ≡ vars_in (out-Access a).at
unfolding vars_at
access_vars a = ap vars_at (sym (roll-out-Access a)) ∙ para-roll-Access (List Var) (Unit {0}) (List Var) (Unit {0}) (Unit {0}) vars_step (λ t. tt) (λ a. a.at.1) (λ d. tt) (λ v. tt) (out-Access a)

layer_vars : ExprLayer → List Var
layer_vars (Expr-F.Num n at) = []
layer_vars (Expr-F.Expr::Bool b at) = []
layer_vars (Expr-F.Var v) = v ∷ []
layer_vars (Expr-F.Cell v i) = v ∷ vars_in i
layer_vars (Expr-F.Load a) = vars_in (out-Access a).at
layer_vars (Expr-F.Neg a at) = vars_in a
layer_vars (Expr-F.Not a at) = vars_in a
layer_vars (Expr-F.Cast z s a at) = vars_in a
layer_vars (Expr-F.Bin o a b at) = vars_in a ++ vars_in b

abbrev paired : ExprLayer → Expr-F (Expr × List Var) (Ty × Unit {0}) (Access × List Var) (Decl × Unit {0}) (Var × Unit {0})
paired x = map-Expr _ _ _ _ _ _ _ _ _ _ (λ y. (y, vars_in y)) (λ y. (y, tt)) (λ y. (y, vars_at y)) (λ y. (y, tt)) (λ y. (y, tt)) x

rolled : (x : ExprLayer) → vars_in (roll-Expr x) ≡ vars_step (paired x)
unfolding vars_at
rolled x = para-roll-Expr (List Var) (Unit {0}) (List Var) (Unit {0}) (Unit {0}) vars_step (λ t. tt) (λ a. a.at.1) (λ d. tt) (λ v. tt) x

vars_rolled : (x : ExprLayer) → vars_in (roll-Expr x) ≡ layer_vars x
unfolding layer_vars
vars_rolled (Expr-F.Num n at) = rolled (Expr-F.Num n at)
vars_rolled (Expr-F.Expr::Bool b at) = rolled (Expr-F.Expr::Bool b at)
vars_rolled (Expr-F.Var v) = rolled (Expr-F.Var v)
vars_rolled (Expr-F.Cell v i) = rolled (Expr-F.Cell v i)
vars_rolled (Expr-F.Load a) = rolled (Expr-F.Load a) ∙ access_vars a
vars_rolled (Expr-F.Neg a at) = rolled (Expr-F.Neg a at)
vars_rolled (Expr-F.Not a at) = rolled (Expr-F.Not a at)
vars_rolled (Expr-F.Cast z s a at) = rolled (Expr-F.Cast z s a at)
vars_rolled (Expr-F.Bin o a b at) = rolled (Expr-F.Bin o a b at)

-- ---- what is resolved
module _ (d : List ℕ → Option Decl) (n : Name → Option (Option ℤ)) where
  abbrev R : Expr → Expr
  R = resolved_expr d n

  var_carries : (v : Var) → Carries d (resolved_var d n v)
  var_carries v =
      ap (λ w. (out-Var w).decl) (fold_out-Var _ _ _ _ _ (expr_step d n) roll-Ty roll-Access roll-Decl (var_step d n) v)
      ∙ ap (λ (y : Var-F Expr Ty Access Decl Var). y.decl) (out-roll-Var _)
      ∙ ap d (sym (ap (λ w. (out-Var w).name) (fold_out-Var _ _ _ _ _ (expr_step d n) roll-Ty roll-Access roll-Decl (var_step d n) v) ∙ ap (λ (y : Var-F Expr Ty Access Decl Var). y.name) (out-roll-Var _)))

  abbrev Law : Expr → Type 0
  Law e = All (Carries d) (vars_in (R e))

  abbrev Proved : Type 0
  Proved = Expr-F ((e : Expr) × Law e) (Ty × Unit {0}) ((a : Access) × Law (out-Access a).at) (Decl × Unit {0}) (Var × Unit {0})

  abbrev bare : Proved → ExprLayer
  bare y = map-Expr _ _ _ _ _ Expr Ty Access Decl Var (λ e. e.0) (λ e. e.0) (λ e. e.0) (λ e. e.0) (λ e. e.0) y

  at_layer : (x : ExprLayer) → All (Carries d) (layer_vars x) → All (Carries d) (vars_in (roll-Expr x))
  at_layer x h = subst (All (Carries d)) (sym (vars_rolled x)) h

  number_carries : (k : Option (Option ℤ)) (w : Var) → Carries d w → All (Carries d) (vars_in (number_or k w))
  unfolding layer_vars
  number_carries None w h = subst (λ e. All (Carries d) (vars_in e)) (expr.rolls-Var w) (at_layer (Expr-F.Var w) (All-cons (Carries d) w [] h (All-nil (Carries d))))
  number_carries (Some (Some k)) w h = subst (λ e. All (Carries d) (vars_in e)) (expr.rolls-Num k (out-Var w).span) (at_layer (Expr-F.Num k (out-Var w).span) (All-nil (Carries d)))
  number_carries (Some None) w h =
      let at = (out-Var w).span in
      let one = expr.Num (pos 1) at in
      let none = expr.Num (pos 0) at in
      let empty : (k : ℤ) → vars_in (expr.Num k at) ≡ [] = λ k. ap vars_in (sym (expr.rolls-Num k at)) ∙ vars_rolled (Expr-F.Num k at) in
      subst (λ e. All (Carries d) (vars_in e)) (expr.rolls-Bin op.Div one none at)
      (at_layer (Expr-F.Bin op.Div one none at) (subst (All (Carries d)) (sym (ap₂ (λ a b. a ++ b) (empty (pos 1)) (empty (pos 0)))) (All-nil (Carries d))))

  layer_carries : (y : Proved) → All (Carries d) (vars_in (expr_step d n (resolved_layer d n (bare y))))
  unfolding layer_vars
  layer_carries (Expr-F.Num k at) = at_layer (Expr-F.Num k at) (All-nil (Carries d))
  layer_carries (Expr-F.Expr::Bool b at) = at_layer (Expr-F.Expr::Bool b at) (All-nil (Carries d))
  layer_carries (Expr-F.Var v) = number_carries (n (name_of (resolved_var d n v.0))) (resolved_var d n v.0) (var_carries v.0)
  layer_carries (Expr-F.Cell v i) = at_layer (Expr-F.Cell (resolved_var d n v.0) (R i.0)) (All-cons (Carries d) (resolved_var d n v.0) (vars_in (R i.0)) (var_carries v.0) i.1)
  layer_carries (Expr-F.Load a) = at_layer (Expr-F.Load (resolved_access d n a.0)) (subst (λ e. All (Carries d) (vars_in e)) (sym (access_at d n a.0)) a.1)
  layer_carries (Expr-F.Neg a at) = at_layer (Expr-F.Neg (R a.0) at) a.1
  layer_carries (Expr-F.Not a at) = at_layer (Expr-F.Not (R a.0) at) a.1
  layer_carries (Expr-F.Cast z s a at) = at_layer (Expr-F.Cast z s (R a.0) at) a.1
  layer_carries (Expr-F.Bin o a b at) = at_layer (Expr-F.Bin o (R a.0) (R b.0) at) (All-append (Carries d) (vars_in (R a.0)) (vars_in (R b.0)) a.1 b.1)

  expr_case : (y : Proved) → Law (roll-Expr (bare y))
  expr_case y = subst (λ e. All (Carries d) (vars_in e)) (sym (fold-roll-Expr _ _ _ _ _ (expr_step d n) roll-Ty roll-Access roll-Decl (var_step d n) (bare y))) (layer_carries y)

  expr_carries : (e : Expr) → Law e
  expr_carries =
      ind-Expr Law (λ t. Unit {0}) (λ a. Law (out-Access a).at) (λ d. Unit {0}) (λ v. Unit {0})
      (λ x y is. subst (λ z. Law (roll-Expr z)) is (expr_case y))
      (λ x y is. tt)
      (λ x y is. subst (λ z. Law (out-Access (roll-Access z)).at) is y.at.1)
      (λ x y is. tt)
      (λ x y is. tt)

  exprs_carry : (es : List Expr) → All (Carries d) (flat_map vars_in (map R es))
  exprs_carry [] = All-nil (Carries d)
  exprs_carry (e ∷ es) = All-append (Carries d) (vars_in (R e)) (flat_map vars_in (map R es)) (expr_carries e) (exprs_carry es)

  left_carries : (l : Lval) → All (Carries d) (left_vars (resolved_lval d n l))
  left_carries (lval.Skip at) = All-nil (Carries d)
  left_carries (lval.Var v) = All-cons (Carries d) (resolved_var d n v) [] (var_carries v) (All-nil (Carries d))
  left_carries (lval.Cell v i) = All-cons (Carries d) (resolved_var d n v) [] (var_carries v) (All-nil (Carries d))
  left_carries (lval.Store a) = All-nil (Carries d)

  lefts_carry : (ls : List Lval) → All (Carries d) (flat_map left_vars (map (resolved_lval d n) ls))
  lefts_carry [] = All-nil (Carries d)
  lefts_carry (l ∷ ls) = All-append (Carries d) (left_vars (resolved_lval d n l)) (flat_map left_vars (map (resolved_lval d n) ls)) (left_carries l) (lefts_carry ls)

  set_carries : (k : Layer) → All (Carries d) (set_by (set_layer d n k))
  set_carries (StmtKind-F.Assign to op from cond) = lefts_carry to
  set_carries (StmtKind-F.If c a b) = All-nil (Carries d)
  set_carries (StmtKind-F.While p c None) = All-nil (Carries d)
  set_carries (StmtKind-F.While p c (Some b)) = All-nil (Carries d)
  set_carries (StmtKind-F.For i from down to b) = All-cons (Carries d) (resolved_var d n i) [] (var_carries i) (All-nil (Carries d))
  set_carries (StmtKind-F.Mark vs) = All-nil (Carries d)

  statement_carries : (s : Stmt) → All (Carries d) (used_by (layer_of (resolved_stmt d n s)))
  statement_carries s =
      subst (λ k. All (Carries d) (used_by k)) (sym (layer_resolved d n s))
      (All-append (Carries d) (flat_map vars_in (exprs_of (set_layer d n (layer_of s)))) (set_by (set_layer d n (layer_of s)))
      (subst (λ es. All (Carries d) (flat_map vars_in es)) (sym (exprs_kept d n (layer_of s))) (exprs_carry (exprs_of (layer_of s))))
      (set_carries (layer_of s)))

  results_carry : (vs : List Var) → All (Carries d) (map (resolved_var d n) vs)
  results_carry [] = All-nil (Carries d)
  results_carry (v ∷ vs) = All-cons (Carries d) (resolved_var d n v) (map (resolved_var d n) vs) (var_carries v) (results_carry vs)

-- ---- functions
every : {A : Type 0} (P : A → Type 0) → ((a : A) → P a) → (as' : List A) → All P as'
every P h [] = All-nil P
every P h (a ∷ as') = All-cons P a as' (h a) (every P h as')

module _ (p : Program) where
  abbrev places : PlacesByName
  places = constant_place p.consts

  abbrev values : Values
  values = values_of p.consts

  abbrev D : Fun → List ℕ → Option Decl
  D f = declaration_in places (variables_of (counted_fun values f))

  abbrev N : Fun → Name → Option (Option ℤ)
  N f = number_in places values (variables_of (counted_fun values f))

  fun_carries : (f : Fun) → EachUsed (Carries (D f)) (resolved_of p f)
  fun_carries f = (
    subst (All (λ s. All (Carries (D f)) (used_by (layer_of s)))) (sym (body_resolved (D f) (N f) f.body))
        (All-map (λ s. All (Carries (D f)) (used_by (layer_of s))) (resolved_stmt (D f) (N f)) (statements_of f.body)
        (every (λ s. All (Carries (D f)) (used_by (layer_of (resolved_stmt (D f) (N f) s)))) (statement_carries (D f) (N f)) (statements_of f.body))),
    results_carry (D f) (N f) f.result,
  )

  pub carrying : All (λ f. EachUsed (Carries (declaration_in (constant_place p.consts) (variables_of (resolved_of p f)))) (resolved_of p f)) p.funs
  carrying = every (λ f. EachUsed (Carries (D f)) (resolved_of p f)) fun_carries p.funs

  -- ---- by the text
  or_known : (a b c : Option Decl) → option_map declared_of a ≡ option_map declared_of b → option_map declared_of (option_or a c) ≡ option_map declared_of (option_or b c)
  or_known None None c e = refl
  or_known None (Some y) c e = absurd (none_not (declared_of y) e)
    where
      none_not : {A : Type 0} (a : A) → None ≡ Some a → ⊥
      none_not a e = cc
  or_known (Some x) None c e = absurd (some_not (declared_of x) e)
    where
      some_not : {A : Type 0} (a : A) → Some a ≡ None → ⊥
      some_not a e = cc
  or_known (Some x) (Some y) c e = e

  var_known : (o : Option Var) → option_map declared_of (option_and_then (λ v. (out-Var v).decl) (option_map (counted_var values) o)) ≡ option_map declared_of (option_and_then (λ v. (out-Var v).decl) o)
  var_known None = refl
  var_known (Some v) = ap (λ (y : Var-F Expr Ty Access Decl Var). option_map declared_of y.decl) (var_out values v) ∙ decl_known values (out-Var v).decl

  text_known : (f : Fun) (m : List ℕ) → option_map declared_of (D f m) ≡ known_in p f m
  text_known f m =
      or_known (option_and_then (λ v. (out-Var v).decl) (variable_named m (variables_of (counted_fun values f)))) (option_and_then (λ v. (out-Var v).decl) (variable_named m (variables_of f))) (option_map (λ at. constant_decl) (places m))
      (ap (λ vs. option_map declared_of (option_and_then (λ v. (out-Var v).decl) (variable_named m vs))) (variables_counted values f)
      ∙ ap (λ o. option_map declared_of (option_and_then (λ v. (out-Var v).decl) o)) (find_kept (λ v. (out-Var v).name) (counted_var values) (var_name values) m (variables_of f))
      ∙ var_known (variable_named m (variables_of f)))

  known_of_carried : (f : Fun) (v : Var) → Carries (D f) v → IsKnownAs (known_in p f) v
  known_of_carried f v e = ap (option_map declared_of) e ∙ text_known f (out-Var v).name

  fun_known : (f : Fun) → EachUsed (IsKnownAs (known_in p f)) (resolved_of p f)
  fun_known f =
      let h = fun_carries f in (
        All-weaker (λ s. All (Carries (D f)) (used_by (layer_of s))) (λ s. All (IsKnownAs (known_in p f)) (used_by (layer_of s)))
            (λ s g. All-weaker (Carries (D f)) (IsKnownAs (known_in p f)) (known_of_carried f) (used_by (layer_of s)) g) (statements_of (resolved_of p f).body) h.0,
        All-weaker (Carries (D f)) (IsKnownAs (known_in p f)) (known_of_carried f) (resolved_of p f).result h.1,
      )

  pub known : All (λ f. EachUsed (IsKnownAs (known_in p f)) (resolved_of p f)) p.funs
  known = every (λ f. EachUsed (IsKnownAs (known_in p f)) (resolved_of p f)) fun_known p.funs
