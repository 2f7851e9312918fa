-- What stands in a body is fit in each copy of it, where the names agree with the kinds.
use Rattle.std.proofs.Common.{◌≡◌, ℕ, zero, suc, List, [], ◌∷◌, ◌++◌, Option, Some, None, map, Bool, true, not, refl, ap, sym, ◌∙◌, subst}
use Rattle.std.specs.Prelude.{All, take, option_map}
use Rattle.std.proofs.lemmas.Bool.{and_parts, and_from}
use Rattle.std.proofs.lemmas.List.Elements.{All-nil, All-cons, All-head, All-tail}
use Rattle.jz_tree.specs.Spellings.{spelled}
use Rattle.jz_tree.specs.declared.expr.Expr.{Expr}
use Rattle.jz_tree.specs.declared.expr.Expr.TheVariants as expr
use Rattle.jz_tree.specs.declared.expr.Ty.{Ty}
use Rattle.jz_tree.specs.declared.expr.Access.{Access}
use Rattle.jz_tree.specs.declared.expr.Decl.{Decl}
use Rattle.jz_tree.specs.declared.expr.Var.{Var}
use Rattle.jz_tree.specs.declared.expr.Expr.TheOpen.{Expr-F, Access-F, Var-F}
use Rattle.jz_tree.specs.declared.expr.Expr.TheViews.{roll-Expr, roll-Access, roll-Var, out-Var, roll-out-Var}
use Rattle.jz_tree.specs.declared.expr.Expr.TheFolds.{fold-roll-Var, ind-Expr, map-Expr, map-Access}
use Rattle.jz_tree.specs.declared.stmt.Lval.{Lval}
use Rattle.jz_tree.specs.declared.stmt.Lval.TheVariants as lval
use Rattle.jz_tree.specs.declared.program.Fun.{Fun}
use Rattle.jz_tree.specs.declared.program.Program.{Program}
use Rattle.jz_type_names.specs.Scopes.{variables_of}
use Rattle.jz_types.specs.Carried.{declared_in}
use Rattle.jz_meaning.specs.Assignments.{as_expr}
use Rattle.jz_meaning.specs.Shapes.{Sort, words, flags, integers, Sorts, Shape, operation_shape, shape_step, shape_of}
use Rattle.jz_meaning.specs.States.{Key}
use Rattle.jz_meaning.specs.Statements.{Operation, assign, instruction, unset, meaningless, Condition}
use Rattle.jz_meaning.specs.Values.{Ref, key_of, ref_of, expr_step, ty_step, access_step, decl_step, var_step}
use Rattle.jz_run_laws.specs.Kinds.{Kinds, part_of, kind_at, sort_of_kind, sorts_of}
use Rattle.jz_run_laws.specs.DeclaredKinds.{IsDeclared, LeftDeclared}
use Rattle.jz_run_laws.proofs.Declarations.{declarations_give}
use Rattle.jz_typed_runs.specs.TypedTexts.{kinds_in}
use Rattle.jz_bodies.specs.Scopes.{Scope, is_over, is_access_over, Reads, ReadsIf, AllRead, Writes, AllWritten}
use Rattle.jz_bodies.specs.Calls.{is_array}
use Rattle.jz_bodies.specs.Declared.{is_one, is_among, arrays_set, scopes_in}
use Rattle.jz_bodies.specs.Bodies.{IsOperation, IsTest}
use Rattle.jz_bodies.proofs.Refs.{one_is, ref_cell}
use Rattle.jz_bodies.proofs.Owning.{one_of, set_among}
use Rattle.jz_bodies.proofs.Whole as whole
use Rattle.jz_scalars.specs.Names.{Names, var_in, expr_in, access_in, lval_in, op_in, test_in}
use Rattle.jz_scalars.proofs.Copies.{ref_in}
use Rattle.jz_scalars.proofs.Reading.{Layer, ref_so, layer_in, in_is, access_layer_in, access_in_is, over_layer, over_is, access_over_is}
use Rattle.jz_scalars.proofs.Renaming.{in_var, in_cell, in_load}
use Rattle.jz_arrays.specs.Arrays.{IsRead, IsNoCell, flags_before}
use Rattle.jz_arrays.proofs.Reading.{shape_access, sort_of_var, shape_layer, shape_is}
use Rattle.jz_scalars.specs.Ready.{same_sort, is_sorted}
use Rattle.jz_ready.proofs.FixedParts.{IsFixedOperation, access_rolled}
use Rattle.jz_ready.proofs.FixedStatements.{own_sorts}
use Rattle.jz_ready.proofs.FitParts.{FitIf, FitLeft, FitOperation}

-- ---- variables of a function

-- one that a function has is declared to be of its kind, and is no cell
pub record IsOfFunction (p : Program) (g : Fun) (r : Ref) : Type 0 where
  pub kind : kinds_in p g r.name 0 ≡ r.kind
  pub cell : r.cell ≡ None

record IsOwn (p : Program) (g : Fun) (v : Var) : Type 0 where
  pub declared : IsDeclared (kinds_in p g) (ref_of v)
  pub cell : (ref_of v).cell ≡ None

module _ (p : Program) (g : Fun) (k : whole.IsKnown p g) where
  all_own : All (IsOwn p g) (variables_of g)
  all_own = λ i v l. record {
    declared = declarations_give (declared_in p g) _ (k.names.own i v l) (k.text.declared i v l).1;
    cell = ref_cell _ ∙ (k.text.declared i v l).1;
  }

  pub among_is : (r : Ref) → is_among r (variables_of g) ≡ true → IsOfFunction p g r
  among_is r e =
      let x = one_of (λ v. is_one r (ref_of v)) (IsOwn p g) (variables_of g) e all_own in
      let same = one_is r (ref_of x.0) x.1 in
      let cell : r.cell ≡ None = ap (λ (y : Key). y.cell) same.0 ∙ x.2.cell in
      let at : kind_at (kinds_in p g) (key_of r) ≡ r.kind = ap (kind_at (kinds_in p g)) same.0 ∙ (x.2.declared ∙ sym same.1) in
      record { kind = sym (ap (part_of (kinds_in p g r.name r.copy)) cell) ∙ at; cell = cell }

  abbrev X : Scope
  X = scopes_in p g

  pub scalar_is : (r : Ref) → X.has_scalar r ≡ true → IsOfFunction p g r
  scalar_is r e = among_is r (and_parts (not (is_array r.kind)) (is_among r (variables_of g)) e).1

  pub array_is : (r : Ref) → X.has_array r ≡ true → IsOfFunction p g r
  array_is r e = among_is r (and_parts (is_array r.kind) (is_among r (variables_of g)) e).1

  pub set_has : (r : Ref) → X.sets_array r ≡ true → X.has_array r ≡ true
  set_has r e =
      let t = and_parts (is_array r.kind) (is_among r (arrays_set g ++ g.vars)) e in
      and_from (is_array r.kind) (is_among r (variables_of g)) t.0 (set_among p g r t.1)

-- ---- sorts

same_itself : (a : Sort) → same_sort a a ≡ true
same_itself words = refl
same_itself flags = refl
same_itself integers = refl

rolled_sort : (sorts : Sorts) (y : Var-F Expr Ty Access Decl Var) → sort_of_var sorts (roll-Var y) ≡ sorts (ref_of (roll-Var y)).name (ref_of (roll-Var y)).copy
rolled_sort sorts y =
    fold-roll-Var _ _ _ _ _ shape_step (λ t. tt) (λ a. a.at) (λ d. tt) (λ v. sorts v.name v.copy) y
    ∙ sym (ap (λ (r : Ref). sorts r.name r.copy) (fold-roll-Var _ _ _ _ _ expr_step ty_step access_step decl_step var_step y))

pub var_sort : (sorts : Sorts) (v : Var) → sort_of_var sorts v ≡ sorts (ref_of v).name (ref_of v).copy
var_sort sorts v = subst (λ u. sort_of_var sorts u ≡ sorts (ref_of u).name (ref_of u).copy) (roll-out-Var v) (rolled_sort sorts (out-Var v))

-- ---- in a copy

-- a variable is of the kind that its function declares
abbrev pub Follows : Program → Kinds → Fun → Names → Type 0
Follows p kinds g names = (n : List ℕ) → kinds (names n).0 (names n).1 ≡ kinds_in p g n 0

module _ (p : Program) (kinds : Kinds) (g : Fun) (k : whole.IsKnown p g) (names : Names) (follows : Follows p kinds g names) where
  abbrev O : Sorts
  O = own_sorts p g

  abbrev T : Sorts
  T = sorts_of kinds

  abbrev H : Scope
  H = scopes_in p g

  abbrev sorted : Ref → Bool
  sorted = is_sorted kinds

  kind_in_copy : (r : Ref) → IsOfFunction p g r → kinds (names r.name).0 (names r.name).1 ≡ r.kind
  kind_in_copy r h = follows r.name ∙ h.kind

  ref_sorted : (r : Ref) → IsOfFunction p g r → sorted (ref_in names r) ≡ true
  ref_sorted r h = ap (λ z. same_sort (sort_of_kind z) (sort_of_kind r.kind)) (kind_in_copy r h) ∙ same_itself (sort_of_kind r.kind)

  ref_declared : (r : Ref) → IsOfFunction p g r → IsDeclared kinds (ref_in names r)
  ref_declared r h = ap (part_of (kinds (names r.name).0 (names r.name).1)) h.cell ∙ kind_in_copy r h

  var_sorted : (v : Var) → IsOfFunction p g (ref_of v) → sorted (ref_of (var_in names v)) ≡ true
  var_sorted v h = ap sorted (ref_so names v) ∙ ref_sorted (ref_of v) h

  var_declared : (v : Var) → IsOfFunction p g (ref_of v) → IsDeclared kinds (ref_of (var_in names v))
  var_declared v h = subst (IsDeclared kinds) (sym (ref_so names v)) (ref_declared (ref_of v) h)

  var_holds : (v : Var) → sort_of_var T (var_in names v) ≡ sort_of_var O v
  var_holds v =
      var_sort T (var_in names v) ∙ (ap (λ (r : Ref). T r.name r.copy) (ref_so names v)
      ∙ (ap sort_of_kind (follows (ref_of v).name) ∙ sym (var_sort O v)))

  -- ---- expressions

  abbrev ExprLaw : Expr → Type 0
  ExprLaw e = is_over H.has_scalar H.has_array e ≡ true → (is_over sorted sorted (expr_in names e) ≡ true) × (shape_of T (expr_in names e) ≡ shape_of O e)

  abbrev AccessLaw : Access → Type 0
  AccessLaw a = is_access_over H.has_scalar H.has_array a ≡ true → (is_access_over sorted sorted (access_in names a) ≡ true) × (shape_access T (access_in names a) ≡ shape_access O a)

  abbrev Any : {A : Type 0} → A → Type 0
  Any y = Unit {0}

  abbrev Known : Type 0
  Known = Expr-F ((e : Expr) × ExprLaw e) ((t : Ty) × Any t) ((a : Access) × AccessLaw a) ((d : Decl) × Any d) ((v : Var) × Any v)

  abbrev bare : Known → Layer
  bare y = map-Expr _ _ _ _ _ _ _ _ _ _ (λ e. e.0) (λ e. e.0) (λ e. e.0) (λ e. e.0) (λ e. e.0) y

  layer_law : (y : Known) → over_layer H.has_scalar H.has_array (bare y) ≡ true
      → (over_layer sorted sorted (layer_in names (bare y)) ≡ true) × (shape_layer T (layer_in names (bare y)) ≡ shape_layer O (bare y))
  layer_law (Expr-F.Num i at) known = (refl, refl)
  layer_law (Expr-F.Expr::Bool c at) known = (refl, refl)
  layer_law (Expr-F.Var v) known = (var_sorted v.0 (scalar_is p g k (ref_of v.0) known), ap (λ (x : Sort). shape_step (Expr-F.Var x)) (var_holds v.0))
  layer_law (Expr-F.Cell v e) known =
      let both = and_parts (H.has_array (ref_of v.0)) _ known in
      let l = e.1 both.1 in (
        and_from (sorted (ref_of (var_in names v.0))) (is_over sorted sorted (expr_in names e.0)) (var_sorted v.0 (array_is p g k (ref_of v.0) both.0)) l.0,
        ap (λ (x : Sort). shape_step (Expr-F.Cell x (shape_of T (expr_in names e.0)))) (var_holds v.0) ∙ ap (λ (y : Shape). shape_step (Expr-F.Cell (sort_of_var O v.0) y)) l.1,
      )
  layer_law (Expr-F.Load a) known = let l = a.1 known in (l.0, ap (λ (y : Shape). shape_step (Expr-F.Load y)) l.1)
  layer_law (Expr-F.Neg e at) known = e.1 known
  layer_law (Expr-F.Not e at) known = e.1 known
  layer_law (Expr-F.Cast z sign e at) known = let l = e.1 known in (l.0, ap (λ (y : Shape). shape_step (Expr-F.Cast z sign y at)) l.1)
  layer_law (Expr-F.Bin op a b at) known =
      let both = and_parts (is_over H.has_scalar H.has_array a.0) _ known in
      let l = a.1 both.0 in
      let r = b.1 both.1 in (
        and_from (is_over sorted sorted (expr_in names a.0)) (is_over sorted sorted (expr_in names b.0)) l.0 r.0,
        ap (λ (y : Shape). operation_shape op y (shape_of T (expr_in names b.0))) l.1 ∙ ap (λ (y : Shape). operation_shape op (shape_of O a.0) y) r.1,
      )

  expr_case : (y : Known) → ExprLaw (roll-Expr (bare y))
  expr_case y known =
      let l = layer_law y (sym (over_is H.has_scalar H.has_array (bare y)) ∙ known) in (
        ap (is_over sorted sorted) (in_is names (bare y)) ∙ (over_is sorted sorted (layer_in names (bare y)) ∙ l.0),
        ap (shape_of T) (in_is names (bare y)) ∙ (shape_is T (layer_in names (bare y)) ∙ (l.1 ∙ sym (shape_is O (bare y)))),
      )

  access_case : (y : Access-F ((e : Expr) × ExprLaw e) ((t : Ty) × Any t) ((a : Access) × AccessLaw a) ((d : Decl) × Any d) ((v : Var) × Any v)) → AccessLaw (roll-Access (map-Access _ _ _ _ _ _ _ _ _ _ (λ e. e.0) (λ e. e.0) (λ e. e.0) (λ e. e.0) (λ e. e.0) y))
  access_case y known =
      let z = map-Access _ _ _ _ _ Expr Ty Access Decl Var (λ e. e.0) (λ e. e.0) (λ e. e.0) (λ e. e.0) (λ e. e.0) y in
      let l = y.at.1 (sym (access_over_is H.has_scalar H.has_array z) ∙ known) in (
        ap (is_access_over sorted sorted) (access_in_is names z) ∙ (access_over_is sorted sorted (access_layer_in names z) ∙ l.0),
        ap (shape_access T) (access_in_is names z) ∙ (access_rolled T (access_layer_in names z) ∙ (l.1 ∙ sym (access_rolled O z))),
      )

  in_copy : (e : Expr) → ExprLaw e
  in_copy =
      ind-Expr ExprLaw Any AccessLaw Any Any
      (λ z y is. subst (λ x. ExprLaw (roll-Expr x)) is (expr_case y))
      (λ z y is. tt)
      (λ z y is. subst (λ x. AccessLaw (roll-Access x)) is (access_case y))
      (λ z y is. tt)
      (λ z y is. tt)

  pub expr_fit : (e : Expr) → Reads H e → IsRead O (Some e) → FitIf kinds (Some (expr_in names e))
  expr_fit e r h = let l = in_copy e r in (l.0, ap (λ (s : Shape). s.fixed) l.1 ∙ h)

  pub if_fit : (c : Option Expr) → ReadsIf H c → IsRead O c → FitIf kinds (option_map (expr_in names) c)
  if_fit None r h = (tt, tt)
  if_fit (Some e) r h = expr_fit e r h

  -- ---- left sides

  left_reads : (d : Lval) → Writes H d → ReadsIf H (as_expr d)
  left_reads (lval.Skip at) w = tt
  left_reads (lval.Var v) w = ap (is_over H.has_scalar H.has_array) (sym (expr.rolls-Var v)) ∙ (over_is H.has_scalar H.has_array (Expr-F.Var v) ∙ w.0)
  left_reads (lval.Cell v i) w =
      ap (is_over H.has_scalar H.has_array) (sym (expr.rolls-Cell v i))
      ∙ (over_is H.has_scalar H.has_array (Expr-F.Cell v i) ∙ and_from (H.has_array (ref_of v)) (is_over H.has_scalar H.has_array i) (set_has p g k (ref_of v) w.0) w.2)
  left_reads (lval.Store a) w = ap (is_over H.has_scalar H.has_array) (sym (expr.rolls-Load a)) ∙ (over_is H.has_scalar H.has_array (Expr-F.Load a) ∙ w)

  left_expr : (d : Lval) → option_map (expr_in names) (as_expr d) ≡ as_expr (lval_in names d)
  left_expr (lval.Skip at) = refl
  left_expr (lval.Var v) = ap Some (in_var names v)
  left_expr (lval.Cell v i) = ap Some (in_cell names v i)
  left_expr (lval.Store a) = ap Some (in_load names a)

  left_declared : (d : Lval) → Writes H d → LeftDeclared kinds (lval_in names d)
  left_declared (lval.Skip at) w = tt
  left_declared (lval.Var v) w = var_declared v (scalar_is p g k (ref_of v) w.0)
  left_declared (lval.Cell v i) w = var_declared v (array_is p g k (ref_of v) (set_has p g k (ref_of v) w.0))
  left_declared (lval.Store a) w = tt

  pub left_fit : (d : Lval) → Writes H d → IsRead O (as_expr d) → FitLeft kinds (lval_in names d)
  left_fit d w h = record { declared = left_declared d w; read = subst (FitIf kinds) (left_expr d) (if_fit (as_expr d) (left_reads d w) h) }

  lefts_fit : (to : List Lval) → AllWritten H to → All (λ d. IsRead O (as_expr d)) to → All (FitLeft kinds) (map (lval_in names) to)
  lefts_fit [] w h = All-nil (FitLeft kinds)
  lefts_fit (d ∷ ds) w h =
      All-cons (FitLeft kinds) (lval_in names d) (map (lval_in names) ds) (left_fit d w.0 (All-head (λ e. IsRead O (as_expr e)) d ds h))
      (lefts_fit ds w.1 (All-tail (λ e. IsRead O (as_expr e)) d ds h))

  args_fit : (es : List Expr) → AllRead H es → All (λ e. IsRead O (Some e)) es → All (λ e. FitIf kinds (Some e)) (map (expr_in names) es)
  args_fit [] r h = All-nil (λ e. FitIf kinds (Some e))
  args_fit (e ∷ es) r h =
      All-cons (λ x. FitIf kinds (Some x)) (expr_in names e) (map (expr_in names) es) (expr_fit e r.0 (All-head (λ x. IsRead O (Some x)) e es h))
      (args_fit es r.1 (All-tail (λ x. IsRead O (Some x)) e es h))

  no_cell_in : (d : Lval) → IsNoCell d → IsNoCell (lval_in names d)
  no_cell_in (lval.Skip at) h = tt
  no_cell_in (lval.Var v) h = tt
  no_cell_in (lval.Cell v i) h = absurd h
  no_cell_in (lval.Store a) h = tt

  no_cells_in : (n : ℕ) (to : List Lval) → All IsNoCell (take n to) → All IsNoCell (take n (map (lval_in names) to))
  no_cells_in zero to h = All-nil IsNoCell
  no_cells_in (suc n) [] h = All-nil IsNoCell
  no_cells_in (suc n) (d ∷ ds) h =
      All-cons IsNoCell (lval_in names d) (take n (map (lval_in names) ds)) (no_cell_in d (All-head IsNoCell d (take n ds) h))
      (no_cells_in n ds (All-tail IsNoCell d (take n ds) h))

  -- ---- operations and tests

  pub operation_fit : (o : Operation) → IsOperation H o → IsFixedOperation O o → FitOperation kinds (op_in names o)
  operation_fit (assign to o e c at) w h = record {
    lefts = lefts_fit to w.0 h.lefts;
    value = expr_fit e w.1 h.value;
    condition = if_fit c w.2 h.condition;
    operation = h.operation;
  }
  operation_fit (instruction to n args at) w h = record {
    lefts = lefts_fit to w.0 h.lefts;
    operands = args_fit args w.1 h.operands;
    flags = no_cells_in (flags_before (spelled n)) to h.flags;
  }
  operation_fit (unset vs) w h = absurd w
  operation_fit (meaningless at) w h = absurd w

  pub test_fit : (c : Condition) → IsTest H c → IsRead O (Some c.cond) → FitIf kinds (Some (test_in names c).cond)
  test_fit c r h = expr_fit c.cond r h
