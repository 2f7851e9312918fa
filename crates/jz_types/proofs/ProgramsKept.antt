-- In a program that is resolved no name is unknown and none repeated, where none was.
use Rattle.std.proofs.Common.{◌≡◌, ℕ, ℤ, Bool, true, false, List, [], ◌∷◌, ◌++◌, Option, Some, None, map, flat_map, refl, sym, ap, ap₂, ◌∙◌, subst, cond}
use Rattle.std.proofs.Math.Path.{fun_ext}
use Rattle.std.proofs.lemmas.List.{map-append}
use Rattle.std.proofs.lemmas.List.Elements.{All-map, All-weaker}
use Rattle.std.specs.Prelude.{All, find, option_map}
use Rattle.std.specs.Str.{bytes_eq}
use Rattle.jz_tree.specs.Span.{Span}
use Rattle.jz_tree.specs.declared.expr.Expr.{Expr}
use Rattle.jz_tree.specs.declared.expr.Ty.{Ty}
use Rattle.jz_tree.specs.declared.expr.Access.{Access}
use Rattle.jz_tree.specs.declared.expr.Decl.{Decl}
use Rattle.jz_tree.specs.declared.expr.Var.{Var}
use Rattle.jz_tree.specs.declared.expr.Expr.TheOpen.{Ty-F, Var-F}
use Rattle.jz_tree.specs.declared.expr.Expr.TheViews.{out-Var, out-Ty, out-roll-Var, out-roll-Ty}
use Rattle.jz_tree.specs.declared.stmt.Stmt.{Stmt}
use Rattle.jz_tree.specs.declared.program.Const.{Const}
use Rattle.jz_tree.specs.declared.program.Fun.{Fun}
use Rattle.jz_tree.specs.declared.program.Param.{Param}
use Rattle.jz_tree.specs.declared.program.Program.{Program}
use Rattle.jz_tree.specs.declared.expr.Storage.{Storage}
use Rattle.jz_type_names.specs.declared.kinds.Kind.{Kind}
use Rattle.jz_type_names.specs.declared.kinds.Declared.{Declared}
use Rattle.jz_type_names.specs.Scopes.{Name, name_of, PlacesByName, variables_of, place_among, constant_place, variable_place, value_place, or_values, function_named}
use Rattle.jz_type_names.specs.Kinds.{kind_step, kind_of, declared_of, known_of, is_array_kind, is_array}
use Rattle.jz_type_names.specs.Parts.{layer_of, statements_of}
use Rattle.jz_type_names.specs.Names.{unknown_where, outside_where, unknown_in_constant, unknown_in_fun, unknown_in, repeated_places, repeated_by, repeated_in_fun, top_names, repeated_in}
use Rattle.jz_resolve.specs.Resolving.{resolved_stmt}
use Rattle.jz_resolve.specs.Numbering.{Values, values_of, declaration_in, number_in}
use Rattle.jz_resolve.specs.Programs.{counted_layer, counted_decl, counted_var, counted_param, counted_fun, resolved_whole, resolved_const, resolved_program}
use Rattle.jz_resolve.proofs.Spans.{body_resolved}
use Rattle.jz_type_names.proofs.Empty.{both, all_empty}
use Rattle.jz_types.proofs.StatementsKept.{layer_resolved, repeated_kept, unknown_kept}

-- ---- the first of a name, in a list whose items keep their names
module _ {A : Type 0} (name : A → List ℕ) (h : A → A) (same : (a : A) → name (h a) ≡ name a) where
  pub find_kept : (m : List ℕ) (as' : List A) → find (λ a. bytes_eq m (name a)) (map h as') ≡ option_map h (find (λ a. bytes_eq m (name a)) as')
  find_kept m [] = refl
  find_kept m (a ∷ as') =
      ap₂ (λ b o. cond b (Some (h a)) o) (ap (bytes_eq m) (same a)) (find_kept m as') ∙ at_test (bytes_eq m (name a))
    where
      at_test : (b : Bool) → cond b (Some (h a)) (option_map h (find (λ a. bytes_eq m (name a)) as')) ≡ option_map h (cond b (Some a) (find (λ a. bytes_eq m (name a)) as'))
      at_test true = refl
      at_test false = refl

placed : {A : Type 0} (h : A → A) (span : A → Span) → ((a : A) → span (h a) ≡ span a) → (o : Option A) → option_map span (option_map h o) ≡ option_map span o
placed h span same None = refl
placed h span same (Some a) = ap (λ (s : Span). Some s) (same a)

-- ---- declarations with numbers as lengths
abbrev declaring : Storage → Kind → Declared
declaring s k = record { storage = s; kind = k }

module _ (values : Values) where
  pub var_out : (v : Var) → out-Var (counted_var values v) ≡ record (out-Var v) { decl = option_map (counted_decl values) (out-Var v).decl }
  var_out v = out-roll-Var _

  pub var_name : (v : Var) → (out-Var (counted_var values v)).name ≡ (out-Var v).name
  var_name v = ap (λ (y : Var-F Expr Ty Access Decl Var). y.name) (var_out v)

  var_span : (v : Var) → (out-Var (counted_var values v)).span ≡ (out-Var v).span
  var_span v = ap (λ (y : Var-F Expr Ty Access Decl Var). y.span) (var_out v)

  layer_kind : (x : Ty-F Expr Ty Access Decl Var) → kind_of (counted_layer values x) ≡ kind_step x
  layer_kind Ty-F.Int = ap kind_step (out-roll-Ty Ty-F.Int)
  layer_kind Ty-F.Ty::Bool = ap kind_step (out-roll-Ty Ty-F.Ty::Bool)
  layer_kind (Ty-F.Word z) = ap kind_step (out-roll-Ty (Ty-F.Word z))
  layer_kind (Ty-F.Array z e) = ap kind_step (out-roll-Ty _)

  -- the same storage and type
  pub decl_known : (d : Option Decl) → option_map declared_of (option_map (counted_decl values) d) ≡ option_map declared_of d
  decl_known None = refl
  decl_known (Some d) = ap (λ k. Some (declaring d.storage k)) (layer_kind (out-Ty d.ty))

  decl_array : (d : Option Decl) → is_array (option_map declared_of (option_map (counted_decl values) d)) ≡ is_array (option_map declared_of d)
  decl_array None = refl
  decl_array (Some d) = ap is_array_kind (layer_kind (out-Ty d.ty))

  param_array : (p : Param) → is_array (known_of (counted_param values p).var) ≡ is_array (known_of p.var)
  param_array p = ap (λ (y : Var-F Expr Ty Access Decl Var). is_array (option_map declared_of y.decl)) (var_out p.var) ∙ decl_array (out-Var p.var).decl

  params_counted : (ps : List Param) → map (λ p. p.var) (map (counted_param values) ps) ≡ map (counted_var values) (map (λ p. p.var) ps)
  params_counted [] = refl
  params_counted (p ∷ ps) = ap (λ vs. counted_var values p.var ∷ vs) (params_counted ps)

  pub variables_counted : (f : Fun) → variables_of (counted_fun values f) ≡ map (counted_var values) (variables_of f)
  variables_counted f = ap (λ vs. vs ++ map (counted_var values) f.vars) (params_counted f.params) ∙ sym (map-append (counted_var values) (map (λ p. p.var) f.params) f.vars)

  place_kept : (vs : List Var) (m : List ℕ) → place_among (map (counted_var values) vs) m ≡ place_among vs m
  place_kept vs m =
      ap (option_map (λ v. (out-Var v).span)) (find_kept (λ v. (out-Var v).name) (counted_var values) var_name m vs)
      ∙ placed (counted_var values) (λ v. (out-Var v).span) var_span (find (λ v. bytes_eq m (out-Var v).name) vs)

  variables_kept : (f : Fun) → variable_place (counted_fun values f) ≡ variable_place f
  variables_kept f = fun_ext (λ m. ap (λ vs. place_among vs m) (variables_counted f) ∙ place_kept (variables_of f) m)

-- ---- the whole program
module _ (p : Program) where
  abbrev places : PlacesByName
  places = constant_place p.consts

  abbrev values : Values
  values = values_of p.consts

  abbrev H : Fun → Fun
  H = resolved_whole places values

  abbrev D : Fun → List ℕ → Option Decl
  D f = declaration_in places (variables_of (counted_fun values f))

  abbrev N : Fun → Name → Option (Option ℤ)
  N f = number_in places values (variables_of (counted_fun values f))

  constants_kept : constant_place (resolved_program p).consts ≡ constant_place p.consts
  constants_kept =
      fun_ext
      (λ m. ap (option_map (λ c. c.span)) (find_kept (λ (c : Const). c.name) (resolved_const places values) (λ c. refl) m p.consts)
      ∙ placed (resolved_const places values) (λ (c : Const). c.span) (λ c. refl) (find (λ c. bytes_eq m c.name) p.consts))

  functions_kept : (m : List ℕ) → function_named m (resolved_program p).funs ≡ option_map H (function_named m p.funs)
  functions_kept m = find_kept (λ (f : Fun). f.name) H (λ f. refl) m p.funs

  -- in the resolved program nothing is unknown in these statements
  abbrev pub KnownIn : Fun → Stmt → Type 0
  KnownIn f s = unknown_where (or_values (constant_place (resolved_program p).consts) (variable_place f)) (variable_place f) (λ m. function_named m (resolved_program p).funs) (layer_of s) ≡ []

  abbrev pub DifferentIn : Stmt → Type 0
  DifferentIn s = repeated_by (layer_of s) ≡ []

  statement_known : (f : Fun) (s : Stmt) → unknown_where (value_place p.consts f) (variable_place f) (λ m. function_named m p.funs) (layer_of s) ≡ [] → KnownIn (H f) (resolved_stmt (D f) (N f) s)
  statement_known f s e =
      let k = unknown_kept (D f) (N f) H (counted_param values) (λ g. refl) (param_array values) (λ m. function_named m p.funs) (λ m. function_named m (resolved_program p).funs) functions_kept (value_place p.consts f) (variable_place f) (layer_of s) e in
      let at_layer = subst (λ l. unknown_where (value_place p.consts f) (variable_place f) (λ m. function_named m (resolved_program p).funs) l ≡ []) (sym (layer_resolved (D f) (N f) s)) k in
      let at_variables = subst (λ v. unknown_where (or_values (constant_place p.consts) v) v (λ m. function_named m (resolved_program p).funs) (layer_of (resolved_stmt (D f) (N f) s)) ≡ []) (sym (variables_kept values f)) at_layer in
      subst (λ c. unknown_where (or_values c (variable_place (H f))) (variable_place (H f)) (λ m. function_named m (resolved_program p).funs) (layer_of (resolved_stmt (D f) (N f) s)) ≡ []) (sym constants_kept) at_variables

  in_body : (f : Fun) (P : Stmt → Type 0) → All (λ s. P (resolved_stmt (D f) (N f) s)) (statements_of f.body) → All P (statements_of (H f).body)
  in_body f P h = subst (All P) (sym (body_resolved (D f) (N f) f.body)) (All-map P (resolved_stmt (D f) (N f)) (statements_of f.body) h)

  fun_known : (f : Fun) → unknown_in_fun p f ≡ [] → All (KnownIn (H f)) (statements_of (H f).body)
  fun_known f e =
      let body = both (outside_where (value_place p.consts f) (variable_place f) f) (flat_map (λ s. unknown_where (value_place p.consts f) (variable_place f) (λ m. function_named m p.funs) (layer_of s)) (statements_of f.body)) e in
      in_body f (KnownIn (H f))
      (All-weaker (λ s. unknown_where (value_place p.consts f) (variable_place f) (λ m. function_named m p.funs) (layer_of s) ≡ []) (λ s. KnownIn (H f) (resolved_stmt (D f) (N f) s)) (statement_known f) (statements_of f.body)
      (all_empty (λ s. unknown_where (value_place p.consts f) (variable_place f) (λ m. function_named m p.funs) (layer_of s)) (statements_of f.body) body.1))

  pub all_known : unknown_in p ≡ [] → All (λ f. All (KnownIn f) (statements_of f.body)) (resolved_program p).funs
  all_known e =
      let funs = both (flat_map (unknown_in_constant (constant_place p.consts)) p.consts) (flat_map (unknown_in_fun p) p.funs) e in
      All-map (λ f. All (KnownIn f) (statements_of f.body)) H p.funs (All-weaker (λ f. unknown_in_fun p f ≡ []) (λ f. All (KnownIn (H f)) (statements_of (H f).body)) fun_known p.funs (all_empty (unknown_in_fun p) p.funs funs.1))

  statement_different : (f : Fun) (s : Stmt) → repeated_by (layer_of s) ≡ [] → DifferentIn (resolved_stmt (D f) (N f) s)
  statement_different f s e = ap repeated_by (layer_resolved (D f) (N f) s) ∙ repeated_kept (D f) (N f) (layer_of s) ∙ e

  fun_different : (f : Fun) → repeated_in_fun f ≡ [] → All DifferentIn (statements_of (H f).body)
  fun_different f e =
      let body = both (repeated_places (map name_of (variables_of f))) (flat_map (λ s. repeated_by (layer_of s)) (statements_of f.body)) e in
      in_body f DifferentIn
      (All-weaker (λ s. repeated_by (layer_of s) ≡ []) (λ s. DifferentIn (resolved_stmt (D f) (N f) s)) (statement_different f) (statements_of f.body) (all_empty (λ s. repeated_by (layer_of s)) (statements_of f.body) body.1))

  pub all_different : repeated_in p ≡ [] → All (λ f. All DifferentIn (statements_of f.body)) (resolved_program p).funs
  all_different e =
      let funs = both (repeated_places (top_names p)) (flat_map repeated_in_fun p.funs) e in
      All-map (λ f. All DifferentIn (statements_of f.body)) H p.funs (All-weaker (λ f. repeated_in_fun f ≡ []) (λ f. All DifferentIn (statements_of (H f).body)) fun_different p.funs (all_empty repeated_in_fun p.funs funs.1))
