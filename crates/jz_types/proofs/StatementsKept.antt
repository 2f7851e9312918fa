-- What a statement reads, sets and calls stays where it is resolved.
use Rattle.std.proofs.Common.{◌≡◌, ℕ, ℤ, Bool, true, false, List, [], ◌∷◌, ◌++◌, Option, Some, None, map, flat_map, refl, sym, ap, ap₂, ◌∙◌, subst}
use Rattle.jz_tree.specs.Span.{Span}
use Rattle.std.specs.Prelude.{pos, if◌then◌else◌, is_some, All, option_map, option_to_list}
use Rattle.std.proofs.lemmas.List.{map-append}
use Rattle.std.proofs.lemmas.List.Elements.{All-nil}
use Rattle.jz_tree.specs.declared.expr.Expr.{Expr}
use Rattle.jz_tree.specs.declared.expr.Ty.{Ty}
use Rattle.jz_tree.specs.declared.expr.Access.{Access}
use Rattle.jz_tree.specs.declared.expr.Decl.{Decl}
use Rattle.jz_tree.specs.declared.expr.Var.{Var}
use Rattle.jz_tree.specs.declared.expr.Expr.TheVariants as expr
use Rattle.jz_tree.specs.declared.expr.BinOp.TheVariants as op
use Rattle.jz_tree.specs.declared.expr.Expr.TheOpen.{Expr-F}
use Rattle.jz_tree.specs.declared.expr.Expr.TheViews.{out-Expr, out-Var, roll-Expr, roll-Ty, roll-Access, roll-Decl, out-roll-Expr}
use Rattle.jz_tree.specs.declared.expr.Expr.TheFolds.{fold_out-Expr}
use Rattle.jz_tree.specs.declared.stmt.Lval.{Lval}
use Rattle.jz_tree.specs.declared.stmt.Lval.TheVariants as lval
use Rattle.jz_tree.specs.declared.stmt.Rhs.{Rhs}
use Rattle.jz_tree.specs.declared.stmt.Rhs.TheVariants as rhs
use Rattle.jz_tree.specs.declared.stmt.Stmt.{Stmt}
use Rattle.jz_tree.specs.declared.stmt.StmtKind.{StmtKind}
use Rattle.jz_tree.specs.declared.stmt.StmtKind.TheOpen.{StmtKind-F}
use Rattle.jz_tree.specs.declared.stmt.StmtKind.TheViews.{out-StmtKind, out-roll-StmtKind, roll-out-StmtKind, roll-Stmt}
use Rattle.jz_tree.specs.declared.stmt.StmtKind.TheFolds.{fold-roll-Stmt, fold-roll-StmtKind, map-StmtKind}
use Rattle.jz_tree.specs.declared.program.Fun.{Fun}
use Rattle.jz_tree.specs.declared.program.Param.{Param}
use Rattle.jz_type_names.specs.Scopes.{Name, name_of}
use Rattle.jz_type_names.specs.Kinds.{known_of, is_array}
use Rattle.jz_type_names.specs.Parts.{Layer, layer_of, names_in, arrays_in, left_exprs, right_exprs, exprs_of, read_by, arrays_read_by, left_vars, set_by, whole_left, wholly_set_by, called_by}
use Rattle.jz_type_names.specs.Names.{name_layer, array_passed, arrays_beside, arrays_to, arrays_passed, variables_wanted, one_unknown, no_function, unknown_where, repeated_places, repeated_by}
use Rattle.jz_type_names.specs.Order.{unless}
use Rattle.jz_resolve.specs.Resolving.{number_or, expr_step, var_step, resolved_expr, resolved_var, resolved_lval, resolved_rhs, kind_step, resolved_kind, resolved_stmt}
use Rattle.jz_types.proofs.NamesKept.{All-both, var_kept, access_at, resolved_layer, keeps}
use Rattle.jz_type_names.proofs.Empty.{both, joined, all_empty, empty_all}

module _ (d : List ℕ → Option Decl) (n : Name → Option (Option ℤ)) where
  abbrev RE : Expr → Expr
  RE = resolved_expr d n

  abbrev RS : Stmt → Stmt
  RS = resolved_stmt d n

  -- ---- the outermost form
  abbrev pub set_layer : Layer → Layer
  set_layer (StmtKind-F.Assign to op from cond) = StmtKind-F.Assign (map (resolved_lval d n) to) op (resolved_rhs d n from) (option_map RE cond)
  set_layer (StmtKind-F.If c a b) = StmtKind-F.If (RE c) (map RS a) (map RS b)
  set_layer (StmtKind-F.While p c None) = StmtKind-F.While (map RS p) (RE c) None
  set_layer (StmtKind-F.While p c (Some b)) = StmtKind-F.While (map RS p) (RE c) (Some (map RS b))
  set_layer (StmtKind-F.For i from down to b) = StmtKind-F.For (resolved_var d n i) (RE from) down (RE to) (map RS b)
  set_layer (StmtKind-F.Mark vs) = StmtKind-F.Mark (map (resolved_var d n) vs)

  step_layer : (x : Layer) → out-StmtKind (kind_step d n (map-StmtKind _ _ StmtKind Stmt (resolved_kind d n) RS x)) ≡ set_layer x
  step_layer (StmtKind-F.Assign to op from cond) = out-roll-StmtKind _
  step_layer (StmtKind-F.If c a b) = out-roll-StmtKind _
  step_layer (StmtKind-F.While p c None) = out-roll-StmtKind _
  step_layer (StmtKind-F.While p c (Some b)) = out-roll-StmtKind _
  step_layer (StmtKind-F.For i from down to b) = out-roll-StmtKind _
  step_layer (StmtKind-F.Mark vs) = out-roll-StmtKind _

  kind_layer : (k : StmtKind) → out-StmtKind (resolved_kind d n k) ≡ set_layer (out-StmtKind k)
  kind_layer k =
      ap (λ j. out-StmtKind (resolved_kind d n j)) (sym (roll-out-StmtKind k))
      ∙ ap out-StmtKind (fold-roll-StmtKind _ _ (kind_step d n) roll-Stmt (out-StmtKind k))
      ∙ step_layer (out-StmtKind k)

  pub layer_resolved : (s : Stmt) → layer_of (RS s) ≡ set_layer (layer_of s)
  layer_resolved s =
      ap (λ t. out-StmtKind t.kind) (fold-roll-Stmt _ _ (kind_step d n) roll-Stmt (record { notes = s.notes; span = s.span; kind = s.kind }))
      ∙ kind_layer s.kind

  -- ---- its expressions
  left_kept : (l : Lval) → left_exprs (resolved_lval d n l) ≡ map RE (left_exprs l)
  left_kept (lval.Skip at) = refl
  left_kept (lval.Var v) = refl
  left_kept (lval.Cell v i) = refl
  left_kept (lval.Store a) = ap (λ (e : Expr). e ∷ []) (access_at d n a)

  lefts_kept : (ls : List Lval) → flat_map left_exprs (map (resolved_lval d n) ls) ≡ map RE (flat_map left_exprs ls)
  lefts_kept [] = refl
  lefts_kept (l ∷ ls) = ap₂ (λ x y. x ++ y) (left_kept l) (lefts_kept ls) ∙ sym (map-append RE (left_exprs l) (flat_map left_exprs ls))

  right_kept : (r : Rhs) → right_exprs (resolved_rhs d n r) ≡ map RE (right_exprs r)
  right_kept (rhs.Value e) = refl
  right_kept (rhs.Call m args at) = refl
  right_kept (rhs.Intrinsic m args at) = refl

  cond_kept : (c : Option Expr) → option_to_list (option_map RE c) ≡ map RE (option_to_list c)
  cond_kept None = refl
  cond_kept (Some c) = refl

  pub exprs_kept : (k : Layer) → exprs_of (set_layer k) ≡ map RE (exprs_of k)
  exprs_kept (StmtKind-F.Assign to op from cond) =
      ap₂ (λ x y. x ++ y) (ap₂ (λ x y. x ++ y) (lefts_kept to) (right_kept from) ∙ sym (map-append RE (flat_map left_exprs to) (right_exprs from))) (cond_kept cond)
      ∙ sym (map-append RE (flat_map left_exprs to ++ right_exprs from) (option_to_list cond))
  exprs_kept (StmtKind-F.If c a b) = refl
  exprs_kept (StmtKind-F.While p c None) = refl
  exprs_kept (StmtKind-F.While p c (Some b)) = refl
  exprs_kept (StmtKind-F.For i from down to b) = refl
  exprs_kept (StmtKind-F.Mark vs) = refl

  -- ---- its names
  names_each : (P : Name → Type 0) (es : List Expr) → All P (flat_map names_in es) → All P (flat_map names_in (map RE es))
  names_each P [] h = h
  names_each P (e ∷ es) h = All-both P (names_in e) (flat_map names_in es) (names_in (RE e)) (flat_map names_in (map RE es)) (keeps d n P P e).0 (names_each P es) h

  arrays_each : (P : Name → Type 0) (es : List Expr) → All P (flat_map arrays_in es) → All P (flat_map arrays_in (map RE es))
  arrays_each P [] h = h
  arrays_each P (e ∷ es) h = All-both P (arrays_in e) (flat_map arrays_in es) (arrays_in (RE e)) (flat_map arrays_in (map RE es)) (keeps d n P P e).1 (arrays_each P es) h

  pub read_kept : (P : Name → Type 0) (k : Layer) → All P (read_by k) → All P (read_by (set_layer k))
  read_kept P k h = subst (λ es. All P (flat_map names_in es)) (sym (exprs_kept k)) (names_each P (exprs_of k) h)

  arrays_kept : (P : Name → Type 0) (k : Layer) → All P (arrays_read_by k) → All P (arrays_read_by (set_layer k))
  arrays_kept P k h = subst (λ es. All P (flat_map arrays_in es)) (sym (exprs_kept k)) (arrays_each P (exprs_of k) h)

  set_one : (l : Lval) → map name_of (left_vars (resolved_lval d n l)) ≡ map name_of (left_vars l)
  set_one (lval.Skip at) = refl
  set_one (lval.Var v) = ap (λ (m : Name). m ∷ []) (var_kept d n v)
  set_one (lval.Cell v i) = ap (λ (m : Name). m ∷ []) (var_kept d n v)
  set_one (lval.Store a) = refl

  whole_one : (l : Lval) → map name_of (whole_left (resolved_lval d n l)) ≡ map name_of (whole_left l)
  whole_one (lval.Skip at) = refl
  whole_one (lval.Var v) = ap (λ (m : Name). m ∷ []) (var_kept d n v)
  whole_one (lval.Cell v i) = refl
  whole_one (lval.Store a) = refl

  each_named : (f : Lval → List Var) → ((l : Lval) → map name_of (f (resolved_lval d n l)) ≡ map name_of (f l)) → (ls : List Lval)
      → map name_of (flat_map f (map (resolved_lval d n) ls)) ≡ map name_of (flat_map f ls)
  each_named f one [] = refl
  each_named f one (l ∷ ls) =
      map-append name_of (f (resolved_lval d n l)) (flat_map f (map (resolved_lval d n) ls))
      ∙ ap₂ (λ x y. x ++ y) (one l) (each_named f one ls)
      ∙ sym (map-append name_of (f l) (flat_map f ls))

  set_kept : (k : Layer) → map name_of (set_by (set_layer k)) ≡ map name_of (set_by k)
  set_kept (StmtKind-F.Assign to op from cond) = each_named left_vars set_one to
  set_kept (StmtKind-F.If c a b) = refl
  set_kept (StmtKind-F.While p c None) = refl
  set_kept (StmtKind-F.While p c (Some b)) = refl
  set_kept (StmtKind-F.For i from down to b) = ap (λ (m : Name). m ∷ []) (var_kept d n i)
  set_kept (StmtKind-F.Mark vs) = refl

  wholly_kept : (k : Layer) → map name_of (wholly_set_by (set_layer k)) ≡ map name_of (wholly_set_by k)
  wholly_kept (StmtKind-F.Assign to op from cond) = each_named whole_left whole_one to
  wholly_kept (StmtKind-F.If c a b) = refl
  wholly_kept (StmtKind-F.While p c None) = refl
  wholly_kept (StmtKind-F.While p c (Some b)) = refl
  wholly_kept (StmtKind-F.For i from down to b) = refl
  wholly_kept (StmtKind-F.Mark vs) = refl

  called_kept : (k : Layer) → called_by (set_layer k) ≡ called_by k
  called_kept (StmtKind-F.Assign to op (rhs.Value e) cond) = refl
  called_kept (StmtKind-F.Assign to op (rhs.Call m args at) cond) = refl
  called_kept (StmtKind-F.Assign to op (rhs.Intrinsic m args at) cond) = refl
  called_kept (StmtKind-F.If c a b) = refl
  called_kept (StmtKind-F.While p c None) = refl
  called_kept (StmtKind-F.While p c (Some b)) = refl
  called_kept (StmtKind-F.For i from down to b) = refl
  called_kept (StmtKind-F.Mark vs) = refl

  pub repeated_kept : (k : Layer) → repeated_by (set_layer k) ≡ repeated_by k
  repeated_kept k = ap repeated_places (wholly_kept k)

  -- ---- what is passed as an array
  number_named : (P : Name → Type 0) (k : Option (Option ℤ)) (w : Var) (m : Name) → name_of w ≡ m → All P (m ∷ []) → All P (name_layer (out-Expr (number_or k w)))
  number_named P None w m e h =
      subst (λ f. All P (name_layer (out-Expr f))) (expr.rolls-Var w) (subst (λ x. All P (name_layer x)) (sym (out-roll-Expr (Expr-F.Var w))) (subst (λ j. All P (j ∷ [])) (sym e) h))
  number_named P (Some (Some k)) w m e h =
      subst (λ f. All P (name_layer (out-Expr f))) (expr.rolls-Num k (out-Var w).span) (subst (λ x. All P (name_layer x)) (sym (out-roll-Expr (Expr-F.Num k (out-Var w).span))) (All-nil P))
  number_named P (Some None) w m e h =
      let at = (out-Var w).span in
      let one = expr.Num (pos 1) at in
      let none = expr.Num (pos 0) at in
      subst (λ f. All P (name_layer (out-Expr f))) (expr.rolls-Bin op.Div one none at) (subst (λ x. All P (name_layer x)) (sym (out-roll-Expr (Expr-F.Bin op.Div one none at))) (All-nil P))

  no_name : (P : Name → Type 0) (x : Expr-F Expr Ty Access Decl Var) → All P (name_layer x) → All P (name_layer (out-Expr (roll-Expr x)))
  no_name P x h = subst (λ y. All P (name_layer y)) (sym (out-roll-Expr x)) h

  step_named : (P : Name → Type 0) (x : Expr-F Expr Ty Access Decl Var) → All P (name_layer x) → All P (name_layer (out-Expr (expr_step d n (resolved_layer d n x))))
  step_named P (Expr-F.Num k at) h = no_name P (resolved_layer d n (Expr-F.Num k at)) (All-nil P)
  step_named P (Expr-F.Expr::Bool b at) h = no_name P (resolved_layer d n (Expr-F.Expr::Bool b at)) (All-nil P)
  step_named P (Expr-F.Var v) h = number_named P (n (name_of (resolved_var d n v))) (resolved_var d n v) (name_of v) (var_kept d n v) h
  step_named P (Expr-F.Cell v i) h = no_name P (resolved_layer d n (Expr-F.Cell v i)) (All-nil P)
  step_named P (Expr-F.Load a) h = no_name P (resolved_layer d n (Expr-F.Load a)) (All-nil P)
  step_named P (Expr-F.Neg a at) h = no_name P (resolved_layer d n (Expr-F.Neg a at)) (All-nil P)
  step_named P (Expr-F.Not a at) h = no_name P (resolved_layer d n (Expr-F.Not a at)) (All-nil P)
  step_named P (Expr-F.Cast z s a at) h = no_name P (resolved_layer d n (Expr-F.Cast z s a at)) (All-nil P)
  step_named P (Expr-F.Bin o a b at) h = no_name P (resolved_layer d n (Expr-F.Bin o a b at)) (All-nil P)

  named_kept : (P : Name → Type 0) (e : Expr) → All P (name_layer (out-Expr e)) → All P (name_layer (out-Expr (RE e)))
  named_kept P e h =
      subst (λ f. All P (name_layer (out-Expr f))) (sym (fold_out-Expr _ _ _ _ _ (expr_step d n) roll-Ty roll-Access roll-Decl (var_step d n) e)) (step_named P (out-Expr e) h)

  if_kept : (P : Name → Type 0) (a b : Bool) (xs ys : List Name) → a ≡ b → (All P xs → All P ys) → All P (if b then xs else []) → All P (if a then ys else [])
  if_kept P a true xs ys e f h = subst (λ c. All P (if c then ys else [])) (sym e) (f h)
  if_kept P a false xs ys e f h = subst (λ c. All P (if c then ys else [])) (sym e) h

  -- the parameters are those of the function that is called, which stay arrays
  module _ (H : Fun → Fun) (HP : Param → Param) (params : (g : Fun) → (H g).params ≡ map HP g.params) (array : (p : Param) → is_array (known_of (HP p).var) ≡ is_array (known_of p.var)) where
    beside_kept : (P : Name → Type 0) (ps : List Param) (es : List Expr) → All P (arrays_beside ps es) → All P (arrays_beside (map HP ps) (map RE es))
    beside_kept P ps [] h = All-nil P
    beside_kept P [] (e ∷ es) h = All-nil P
    beside_kept P (p ∷ ps) (e ∷ es) h =
        All-both P (array_passed p e) (arrays_beside ps es) (array_passed (HP p) (RE e)) (arrays_beside (map HP ps) (map RE es))
        (if_kept P (is_array (known_of (HP p).var)) (is_array (known_of p.var)) (name_layer (out-Expr e)) (name_layer (out-Expr (RE e))) (array p) (named_kept P e))
        (beside_kept P ps es) h

    to_kept : (P : Name → Type 0) (g : Option Fun) (es : List Expr) → All P (arrays_to g es) → All P (arrays_to (option_map H g) (map RE es))
    to_kept P None es h = h
    to_kept P (Some g) es h = subst (λ ps. All P (arrays_beside ps (map RE es))) (sym (params g)) (beside_kept P g.params es h)

    module _ (F G : List ℕ → Option Fun) (same : (m : List ℕ) → G m ≡ option_map H (F m)) where
      passed_kept : (P : Name → Type 0) (k : Layer) → All P (arrays_passed F k) → All P (arrays_passed G (set_layer k))
      passed_kept P (StmtKind-F.Assign to op (rhs.Value e) cond) h = All-nil P
      passed_kept P (StmtKind-F.Assign to op (rhs.Call m args at) cond) h = subst (λ g. All P (arrays_to g (map RE args))) (sym (same m)) (to_kept P (F m) args h)
      passed_kept P (StmtKind-F.Assign to op (rhs.Intrinsic m args at) cond) h = All-nil P
      passed_kept P (StmtKind-F.If c a b) h = All-nil P
      passed_kept P (StmtKind-F.While p c None) h = All-nil P
      passed_kept P (StmtKind-F.While p c (Some b)) h = All-nil P
      passed_kept P (StmtKind-F.For i from down to b) h = All-nil P
      passed_kept P (StmtKind-F.Mark vs) h = All-nil P

      wanted_kept : (P : Name → Type 0) (k : Layer) → All P (variables_wanted F k) → All P (variables_wanted G (set_layer k))
      wanted_kept P k h =
          All-both P (map name_of (set_by k)) (arrays_read_by k ++ arrays_passed F k) (map name_of (set_by (set_layer k))) (arrays_read_by (set_layer k) ++ arrays_passed G (set_layer k))
          (λ g. subst (All P) (sym (set_kept k)) g)
          (All-both P (arrays_read_by k) (arrays_passed F k) (arrays_read_by (set_layer k)) (arrays_passed G (set_layer k)) (arrays_kept P k) (passed_kept P k)) h

      is_there : (o : Option Fun) → is_some (option_map H o) ≡ is_some o
      is_there None = refl
      is_there (Some g) = refl

      function_kept : (m : Name) → no_function G m ≡ no_function F m
      unfolding no_function
      function_kept m = ap (λ b. unless b m.1) (ap is_some (same m.0) ∙ is_there (F m.0))

      functions_kept : (ms : List Name) → flat_map (no_function G) ms ≡ flat_map (no_function F) ms
      functions_kept [] = refl
      functions_kept (m ∷ ms) = ap₂ (λ x y. x ++ y) (function_kept m) (functions_kept ms)

      -- no name of it is unknown, where none was
      pub unknown_kept : (values variables : List ℕ → Option Span) (k : Layer) → unknown_where values variables F k ≡ [] → unknown_where values variables G (set_layer k) ≡ []
      unknown_kept values variables k e =
          let a = both (flat_map (one_unknown values) (read_by k) ++ flat_map (one_unknown variables) (variables_wanted F k)) (flat_map (no_function F) (called_by k)) e in
          let b = both (flat_map (one_unknown values) (read_by k)) (flat_map (one_unknown variables) (variables_wanted F k)) a.0 in
          let read : All (λ m. one_unknown values m ≡ []) (read_by k) = all_empty (one_unknown values) (read_by k) b.0 in
          let want : All (λ m. one_unknown variables m ≡ []) (variables_wanted F k) = all_empty (one_unknown variables) (variables_wanted F k) b.1 in
          joined (flat_map (one_unknown values) (read_by (set_layer k)) ++ flat_map (one_unknown variables) (variables_wanted G (set_layer k))) (flat_map (no_function G) (called_by (set_layer k)))
          (joined (flat_map (one_unknown values) (read_by (set_layer k))) (flat_map (one_unknown variables) (variables_wanted G (set_layer k)))
          (empty_all (one_unknown values) (read_by (set_layer k)) (read_kept (λ m. one_unknown values m ≡ []) k read))
          (empty_all (one_unknown variables) (variables_wanted G (set_layer k)) (wanted_kept (λ m. one_unknown variables m ≡ []) k want)))
          (functions_kept (called_by (set_layer k)) ∙ ap (flat_map (no_function F)) (called_kept k) ∙ a.1)
