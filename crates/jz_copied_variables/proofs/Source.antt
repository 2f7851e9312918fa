-- What is known of the variables of each part of a statement of the text.
use Rattle.std.proofs.Common.{◌≡◌, List, [], ◌∷◌, ◌++◌, Option, Some, None, Bool, true, false, not, ◌&&◌, ◌||◌, flat_map, refl, sym, ap, ◌∙◌, subst}
use Rattle.std.specs.Prelude.{All, option_map, option_to_list}
use Rattle.std.proofs.lemmas.Bool.{and_parts, false≢true}
use Rattle.std.proofs.lemmas.List.Elements.{All-nil, All-cons, All-head, All-tail}
use Rattle.jz_tree.specs.declared.expr.Expr.{Expr}
use Rattle.jz_tree.specs.declared.expr.Ty.{Ty}
use Rattle.jz_tree.specs.declared.expr.Access.{Access}
use Rattle.jz_tree.specs.declared.expr.Decl.{Decl}
use Rattle.jz_tree.specs.declared.expr.Var.{Var}
use Rattle.jz_tree.specs.declared.expr.Expr.TheOpen.{Expr-F}
use Rattle.jz_tree.specs.declared.expr.Expr.TheViews.{out-Expr, out-Access, roll-Expr, roll-out-Expr, roll-out-Access}
use Rattle.jz_tree.specs.declared.expr.Expr.TheFolds.{para-Access, para-roll-Expr, para-roll-Access, map-Expr}
use Rattle.jz_tree.specs.declared.stmt.Lval.{Lval}
use Rattle.jz_tree.specs.declared.stmt.Lval.TheVariants as lval
use Rattle.jz_tree.specs.declared.program.Fun.{Fun}
use Rattle.jz_tree.specs.declared.program.Program.{Program}
use Rattle.jz_type_names.specs.declared.kinds.Kind as known
use Rattle.jz_type_names.specs.declared.kinds.Kind.TheVariants as scope
use Rattle.jz_type_names.specs.Kinds as names
use Rattle.jz_type_names.specs.Kinds.{kind_of, declared_of, known_of, written_length, is_array_kind, is_register_array}
use Rattle.jz_type_names.specs.Scopes.{variables_of}
use Rattle.jz_type_names.specs.Parts.{span_of, Cells, cells_step, cells_in, left_exprs, left_vars, left_cells}
use Rattle.jz_type_names.proofs.Empty.{both, passed}
use Rattle.jz_type_rows.specs.Indexes.{is_inline_integer, indexed_at, indexed_in}
use Rattle.jz_types.specs.Carried.{vars_in, declared_in}
use Rattle.jz_texts.specs.Declared.{IsCountedDecl}
use Rattle.jz_meaning.specs.declared.access.Kind.TheVariants as kind
use Rattle.jz_meaning.specs.Values.{ref_of, declared_kind, kind_or}
use Rattle.jz_judgement.specs.HasType.{Layer}
use Rattle.jz_run_laws.specs.Counted as counted
use Rattle.jz_run_laws.specs.Counted.{Each, EachLayer}
use Rattle.jz_typed_runs.proofs.Declaring.{IsKept}
use Rattle.jz_typed_runs.proofs.ReachedCauses.{each_by}
use Rattle.jz_bodies.specs.Scopes.{Scope, is_over, is_access_over, Reads, ReadsIf, AllRead, Writes, AllWritten}
use Rattle.jz_bodies.specs.Calls.{is_array}
use Rattle.jz_bodies.specs.Declared.{is_among, arrays_set, scopes_in}
use Rattle.jz_bodies.proofs.Refs.{ref_kind, kind_from, decl_kind, array_declared}
use Rattle.jz_inline.proofs.Reading.{over_layer, over_is, access_over_is}
use Rattle.jz_copied_variables.specs.Variables.{IsInteger, IsOver, over, IsOverLayer, o_number, o_truth, o_variable, o_cell, o_load, o_minus, o_denial, o_cast, o_two, IfOver, LeftOver}
use Rattle.jz_copied_variables.proofs.Integers.{integer_of}

-- ---- cells, layer by layer
cells_at : Access → Cells
cells_at = para-Access Cells (Unit {0}) Cells (Unit {0}) (Unit {0}) cells_step (λ t. tt) (λ a. a.at.1) (λ d. tt) (λ v. tt)

at_is : (a : Access) → cells_at a ≡ cells_in (out-Access a).at
unfolding cells_at
at_is a =
    ap cells_at (sym (roll-out-Access a))
    ∙ para-roll-Access Cells (Unit {0}) Cells (Unit {0}) (Unit {0}) cells_step (λ t. tt) (λ a. a.at.1) (λ d. tt) (λ v. tt) (out-Access a)

abbrev cells_layer : Layer → Cells
cells_layer (Expr-F.Num n at) = []
cells_layer (Expr-F.Expr::Bool b at) = []
cells_layer (Expr-F.Var v) = []
cells_layer (Expr-F.Cell v i) = (v, i) ∷ cells_in i
cells_layer (Expr-F.Load a) = cells_in (out-Access a).at
cells_layer (Expr-F.Neg a at) = cells_in a
cells_layer (Expr-F.Not a at) = cells_in a
cells_layer (Expr-F.Cast z s a at) = cells_in a
cells_layer (Expr-F.Bin o a b at) = cells_in a ++ cells_in b

step_is : (x : Layer) → cells_step (map-Expr _ _ _ _ _ _ _ _ _ _ (λ y. (y, cells_in y)) (λ y. (y, tt)) (λ y. (y, cells_at y)) (λ y. (y, tt)) (λ y. (y, tt)) x) ≡ cells_layer x
step_is (Expr-F.Num n at) = refl
step_is (Expr-F.Expr::Bool c at) = refl
step_is (Expr-F.Var v) = refl
step_is (Expr-F.Cell v e) = refl
step_is (Expr-F.Load a) = at_is a
step_is (Expr-F.Neg a at) = refl
step_is (Expr-F.Not a at) = refl
step_is (Expr-F.Cast size signed a at) = refl
step_is (Expr-F.Bin o a c at) = refl

cells_is : (x : Layer) → cells_in (roll-Expr x) ≡ cells_layer x
unfolding cells_at
cells_is x = para-roll-Expr Cells (Unit {0}) Cells (Unit {0}) (Unit {0}) cells_step (λ t. tt) (λ a. a.at.1) (λ d. tt) (λ v. tt) x ∙ step_is x

flat_both : (xs ys : Cells) → flat_map indexed_at (xs ++ ys) ≡ [] → (flat_map indexed_at xs ≡ []) × (flat_map indexed_at ys ≡ [])
flat_both [] ys e = (refl, e)
flat_both (x ∷ xs) ys e =
    let s = both (indexed_at x) (flat_map indexed_at (xs ++ ys)) e in
    let t = flat_both xs ys s.1 in
    (none_more (indexed_at x) (flat_map indexed_at xs) s.0 t.0, t.1)
  where
    none_more : {A : Type 0} (as' bs : List A) → as' ≡ [] → bs ≡ [] → as' ++ bs ≡ []
    none_more as' bs e f = ap (λ l. l ++ bs) e ∙ f

-- ---- arrays
not_true : (b : Bool) → not b ≡ true → b ≡ false
not_true true h = absurd (false≢true h)
not_true false h = refl

array_decl : (d : Decl) → IsCountedDecl d → (k : known.Kind) → kind_of d.ty ≡ k → is_array (declared_kind d) ≡ is_array_kind k
array_decl d c (scope.Array z) q = let a = array_declared d z c q in ap is_array a.1
array_decl d c scope.Int q = ap is_array (decl_kind d ∙ ap (λ k. kind_from k (written_length d)) q)
array_decl d c scope.Truth q = ap is_array (decl_kind d ∙ ap (λ k. kind_from k (written_length d)) q)
array_decl d c (scope.Word z) q = ap is_array (decl_kind d ∙ ap (λ k. kind_from k (written_length d)) q)

module _ (p : Program) (g : Fun) where
  abbrev pub Kept : Var → Type 0
  Kept v = IsKept (declared_in p g) v

  abbrev X : Scope
  X = scopes_in p g

  pub array_same : (v : Var) → Kept v → names.is_array (known_of v) ≡ is_array (ref_of v).kind
  array_same v k =
      ap names.is_array (ap (option_map declared_of) k.some) ∙ (sym (array_decl k.decl k.counted (kind_of k.decl.ty) refl)
      ∙ sym (ap is_array (ref_kind v ∙ ap (λ o. kind_or (option_map declared_kind o)) k.some)))

  -- what is no array, and what is one
  pub scalar_var : (v : Var) → Kept v → X.has_scalar (ref_of v) ≡ true → names.is_array (known_of v) ≡ false
  scalar_var v k h = array_same v k ∙ not_true (is_array (ref_of v).kind) (and_parts (not (is_array (ref_of v).kind)) (is_among (ref_of v) (variables_of g)) h).0

  array_var : (v : Var) → Kept v → X.has_array (ref_of v) ≡ true → names.is_array (known_of v) ≡ true
  array_var v k h = array_same v k ∙ (and_parts (is_array (ref_of v).kind) (is_among (ref_of v) (variables_of g)) h).0

  set_var : (v : Var) → Kept v → X.sets_array (ref_of v) ≡ true → names.is_array (known_of v) ≡ true
  set_var v k h = array_same v k ∙ (and_parts (is_array (ref_of v).kind) (is_among (ref_of v) (arrays_set g ++ g.vars)) h).0

  -- ---- indexes
  abbrev pub Indexed : Expr → Type 0
  Indexed e = indexed_in e ≡ []

  abbrev IndexedLayer : Layer → Type 0
  IndexedLayer (Expr-F.Cell v i) = (indexed_at (v, i) ≡ []) × Indexed i
  IndexedLayer (Expr-F.Load a) = Indexed (out-Access a).at
  IndexedLayer (Expr-F.Neg a at) = Indexed a
  IndexedLayer (Expr-F.Not a at) = Indexed a
  IndexedLayer (Expr-F.Cast z s a at) = Indexed a
  IndexedLayer (Expr-F.Bin o a b at) = Indexed a × Indexed b
  IndexedLayer x = Unit {0}

  indexed_rolled : (x : Layer) → Indexed (roll-Expr x) → IndexedLayer x
  indexed_rolled x h = by_layer x (sym (ap (flat_map indexed_at) (cells_is x)) ∙ h)
    where
      by_layer : (x : Layer) → flat_map indexed_at (cells_layer x) ≡ [] → IndexedLayer x
      by_layer (Expr-F.Num n at) h = tt
      by_layer (Expr-F.Expr::Bool b at) h = tt
      by_layer (Expr-F.Var v) h = tt
      by_layer (Expr-F.Cell v i) h = both (indexed_at (v, i)) (flat_map indexed_at (cells_in i)) h
      by_layer (Expr-F.Load a) h = h
      by_layer (Expr-F.Neg a at) h = h
      by_layer (Expr-F.Not a at) h = h
      by_layer (Expr-F.Cast z s a at) h = h
      by_layer (Expr-F.Bin o a b at) h = flat_both (cells_in a) (cells_in b) h

  index_integer : (r i : Bool) → (not r || i) ≡ true → r ≡ true → i ≡ true
  index_integer true i h t = h
  index_integer false i h t = absurd (false≢true t)

  integer_at : (v : Var) (i : Expr) → indexed_at (v, i) ≡ [] → is_register_array (known_of v) ≡ true → IsInteger i
  integer_at v i h t =
      integer_of i (index_integer (is_register_array (known_of v)) (is_inline_integer i) (passed (not (is_register_array (known_of v)) || is_inline_integer i) (span_of i) h) t)

  -- ---- expressions
  over_out : (e : Expr) → is_over X.has_scalar X.has_array e ≡ over_layer X.has_scalar X.has_array (out-Expr e)
  over_out e = ap (is_over X.has_scalar X.has_array) (sym (roll-out-Expr e)) ∙ over_is X.has_scalar X.has_array (out-Expr e)

  indexed_out : (e : Expr) → Indexed e → IndexedLayer (out-Expr e)
  indexed_out e h = indexed_rolled (out-Expr e) (subst Indexed (sym (roll-out-Expr e)) h)

  access_over : (a : Access) → is_access_over X.has_scalar X.has_array a ≡ true → Reads X (out-Access a).at
  access_over a h = sym (ap (is_access_over X.has_scalar X.has_array) (sym (roll-out-Access a)) ∙ access_over_is X.has_scalar X.has_array (out-Access a)) ∙ h

  mutual
    over_of : {e : Expr} → Each Kept e → Reads X e → Indexed e → IsOver Kept e
    over_of {e = e} (counted.expression h) r x = over (layer_of h (sym (over_out e) ∙ r) (indexed_out e x))

    layer_of : {x : Layer} → EachLayer Kept x → over_layer X.has_scalar X.has_array x ≡ true → IndexedLayer x → IsOverLayer Kept x
    layer_of counted.number r x = o_number
    layer_of counted.bool r x = o_truth
    layer_of (counted.variable {v = v} k) r x = o_variable k (scalar_var v k r)
    layer_of (counted.cell {v = v} {i = i} k h) r x =
        let s = and_parts (X.has_array (ref_of v)) (is_over X.has_scalar X.has_array i) r in
        o_cell k (array_var v k s.0) (integer_at v i x.0) (over_of h s.1 x.1)
    layer_of (counted.load {a = a} h) r x = o_load (over_of h (access_over a r) x)
    layer_of (counted.negated h) r x = o_minus (over_of h r x)
    layer_of (counted.inverted h) r x = o_denial (over_of h r x)
    layer_of (counted.cast h) r x = o_cast (over_of h r x)
    layer_of (counted.operation {a = a} {b = b} h l) r x =
        let s = and_parts (is_over X.has_scalar X.has_array a) (is_over X.has_scalar X.has_array b) r in
        o_two (over_of h s.0 x.0) (over_of l s.1 x.1)

  abbrev pub HasKept : Expr → Type 0
  HasKept e = All Kept (vars_in e)

  pub expr_over : (e : Expr) → HasKept e → Reads X e → Indexed e → IsOver Kept e
  expr_over e k r x = over_of (each_by Kept e k) r x

  pub if_over : (c : Option Expr) → All HasKept (option_to_list c) → ReadsIf X c → All Indexed (option_to_list c) → IfOver Kept c
  if_over None k r x = tt
  if_over (Some e) k r x = expr_over e (All-head HasKept e [] k) r (All-head Indexed e [] x)

  pub all_over : (es : List Expr) → All HasKept es → AllRead X es → All Indexed es → All (IsOver Kept) es
  all_over [] k r x = All-nil (IsOver Kept)
  all_over (e ∷ es) k r x =
      All-cons (IsOver Kept) e es (expr_over e (All-head HasKept e es k) r.0 (All-head Indexed e es x)) (all_over es (All-tail HasKept e es k) r.1 (All-tail Indexed e es x))

  -- ---- left sides
  abbrev pub At : Var × Expr → Type 0
  At c = indexed_at c ≡ []

  pub left_over : (d : Lval) → All HasKept (left_exprs d) → All Kept (left_vars d) → Writes X d → All Indexed (left_exprs d) → All At (left_cells d) → LeftOver Kept d
  left_over (lval.Skip s) k v w x c = tt
  left_over (lval.Var y) k v w x c = let o = All-head Kept y [] v in (o, scalar_var y o w.0)
  left_over (lval.Cell y i) k v w x c =
      let o = All-head Kept y [] v in
      (o, set_var y o w.0, integer_at y i (All-head At (y, i) [] c), expr_over i (All-head HasKept i [] k) w.2 (All-head Indexed i [] x))
  left_over (lval.Store a) k v w x c = expr_over (out-Access a).at (All-head HasKept (out-Access a).at [] k) (access_over a w) (All-head Indexed (out-Access a).at [] x)

  pub lefts_over : (ds : List Lval) → All (λ d. All HasKept (left_exprs d)) ds → All (λ d. All Kept (left_vars d)) ds → AllWritten X ds → All (λ d. All Indexed (left_exprs d)) ds → All (λ d. All At (left_cells d)) ds → All (LeftOver Kept) ds
  lefts_over [] k v w x c = All-nil (LeftOver Kept)
  lefts_over (d ∷ ds) k v w x c =
      All-cons (LeftOver Kept) d ds
      (left_over d (All-head (λ d. All HasKept (left_exprs d)) d ds k) (All-head (λ d. All Kept (left_vars d)) d ds v) w.0 (All-head (λ d. All Indexed (left_exprs d)) d ds x) (All-head (λ d. All At (left_cells d)) d ds c))
      (lefts_over ds (All-tail (λ d. All HasKept (left_exprs d)) d ds k) (All-tail (λ d. All Kept (left_vars d)) d ds v) w.1 (All-tail (λ d. All Indexed (left_exprs d)) d ds x) (All-tail (λ d. All At (left_cells d)) d ds c))
