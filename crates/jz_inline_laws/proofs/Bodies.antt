-- The tree of a function's body has what typing gives of inline variables, statement by statement.
use Rattle.std.proofs.Common.{◌≡◌, ℕ, List, [], ◌∷◌, ◌++◌, Option, Some, None, Bool, true, false, not, ◌&&◌, ◌||◌, map, flat_map, refl, sym, ap, ◌∙◌, subst, inl, inr}
use Rattle.std.specs.Prelude.{◌⊎◌, All, Contains, is_some}
use Rattle.std.proofs.lemmas.Bool.{false≢true}
use Rattle.std.proofs.lemmas.List.Elements.{All-head, All-tail}
use Rattle.jz_tree.specs.Span.{Span}
use Rattle.jz_tree.specs.declared.expr.BinOp.{BinOp}
use Rattle.jz_tree.specs.declared.expr.Expr.{Expr}
use Rattle.jz_tree.specs.declared.expr.Var.{Var}
use Rattle.jz_tree.specs.declared.expr.Expr.TheViews.{out-Var}
use Rattle.jz_tree.specs.declared.stmt.Lval.{Lval}
use Rattle.jz_tree.specs.declared.stmt.Rhs.{Rhs}
use Rattle.jz_tree.specs.declared.stmt.Rhs.TheVariants as rhs
use Rattle.jz_tree.specs.declared.stmt.Stmt.{Stmt}
use Rattle.jz_tree.specs.declared.stmt.StmtKind.{StmtKind}
use Rattle.jz_tree.specs.declared.stmt.StmtKind.TheOpen.{StmtKind-F, Stmt-F}
use Rattle.jz_tree.specs.declared.stmt.StmtKind.TheViews.{out-StmtKind, out-roll-StmtKind, roll-Stmt, roll-StmtKind}
use Rattle.jz_tree.specs.declared.stmt.StmtKind.TheFolds.{fold-Stmt, fold-StmtKind, fold-roll-Stmt, fold-roll-StmtKind, ind-Stmt, map-Stmt, map-StmtKind}
use Rattle.jz_tree.specs.declared.program.Fun.{Fun}
use Rattle.jz_tree.specs.declared.program.Program.{Program}
use Rattle.jz_type_names.specs.Kinds.{is_inline}
use Rattle.jz_type_names.specs.Order.{unless}
use Rattle.jz_type_names.specs.Scopes.{function_named, name_of}
use Rattle.jz_type_names.specs.Parts.{Layer, layer_of, nested_statements, nested_step, statements_in, statements_of, called_by}
use Rattle.jz_type_names.proofs.NestedLaws.{in_kind, pair, pairs, opened, in_stmt}
use Rattle.jz_type_names.proofs.Empty.{both}
use Rattle.jz_type_storage.specs.Settings.{Around, outermost, is_counter, all_set, left_set, entered_around, counting, set_step, Setting, wrongly_set_in}
use Rattle.jz_type_storage.specs.Paths.{Flow, Does, Then, Either, Repeat, Sets, in_turn, reading_expr, assigning, turns_of, flow_step, flow_of, flow_of_all, has_to_be_set}
use Rattle.jz_type_storage.specs.InnerSurely.{Names, put, after, first}
use Rattle.jz_type_storage.proofs.Walking.{idle_expr}
use Rattle.jz_select.specs.declared.shape.Shape.TheVariants as shapes
use Rattle.jz_select.specs.Shapes.{conditional}
use Rattle.jz_type_sizes.specs.Signatures.{signature}
use Rattle.jz_type_sizes.specs.Mismatches.{among}
use Rattle.jz_judgement.specs.Places.{truth}
use Rattle.jz_judgement.specs.WellTyped as well
use Rattle.jz_judgement.specs.HasType.{value, HasType}
use Rattle.jz_judgement.specs.Lefts.{Values}
use Rattle.jz_judgement.specs.WellTyped.{Instructs, WellTyped}
use Rattle.jz_types.specs.Carried.{vars_in, used_by}
use Rattle.jz_meaning.specs.Trees.{done, choose, loop, each}
use Rattle.jz_meaning.specs.Statements.{Block, Counter}
use Rattle.jz_meaning.specs.Runs.{Callees, in_order, call_tree, assign_tree, kind_tree, statement_tree, block, body_of}
use Rattle.jz_meaning.specs.Values.{ref_of}
use Rattle.jz_run_laws.specs.Depths.{HasNoRecursion, with_own_tree, callees_in}
use Rattle.jz_run_laws.proofs.Uncut.{whole_law}
use Rattle.jz_row_laws.proofs.Copied.{Matches, no_free}
use Rattle.jz_texts.specs.Texts.{IsUnmarked}
use Rattle.jz_texts.specs.Declared.{IsFunction}
use Rattle.jz_texts.proofs.Lists.{parted}
use Rattle.jz_bodies.proofs.Refs.{ref_name}
use Rattle.jz_bodies.proofs.Variables.{flat_parts}
use Rattle.jz_unrolling_laws.specs.AskedLaws.{is_text, has_named}
use Rattle.jz_unrolling_laws.specs.CalledBodies.{inlines_of, IsNamedCounter, IsNamedCall}
use Rattle.jz_inline_laws.specs.InlineParts.{inline_in, NameSet, IsOtherLeft, CountsInline, PassAll, GiveAll}
use Rattle.jz_inline_laws.specs.InlineBodies.{IsInlineBody, inline_done, inline_op, inline_choose, inline_loop, inline_each, inline_call}
use Rattle.jz_inline_laws.proofs.ClearVars.{IsClear, inline_var}
use Rattle.jz_inline_laws.proofs.NamedParts.{expr_named, expr_text, var_text}
use Rattle.jz_inline_laws.proofs.SetBefore.{none_both, Known, put_known, assigned_within}
use Rattle.jz_inline_laws.proofs.Assigning.{RowAt, number_is, value_sets, instruction_sets}

some_there : {A : Type 0} (o : Option A) → is_some o ≡ true → (x : A) × (o ≡ Some x)
some_there None e = absurd (false≢true e)
some_there (Some x) e = (x, refl)

abbrev NoValue : Rhs → Type 0
NoValue (rhs.Value e) = ⊥
NoValue (rhs.Call n args at) = Unit {0}
NoValue (rhs.Intrinsic n args at) = Unit {0}

no_conditional : (to : List Lval) (o : Option BinOp) (r : Rhs) (c : Expr) → NoValue r → conditional to o r c ≡ shapes.Free
no_conditional [] o r c n = refl
no_conditional (d ∷ []) None (rhs.Value e) c n = absurd n
no_conditional (d ∷ []) None (rhs.Call m args at) c n = refl
no_conditional (d ∷ []) None (rhs.Intrinsic m args at) c n = refl
no_conditional (d ∷ []) (Some o) r c n = refl
no_conditional (d ∷ b ∷ ds) o r c n = refl

-- ---- one statement, without those that stand in it

module _ (q : Program) (f : Fun) where
  -- a call of g is typed, by f
  pub record CallsInline (g : Fun) (to : List Lval) (args : List Expr) : Type 0 where
    pub among : Contains q.funs g
    pub named : (at : Span) → IsNamedCall (inlines_of f) (inlines_of g) (record { to = to; callee = g; args = args; at = at })
    pub passes : PassAll (inline_in f) (inline_in g) g.params args
    pub gives : GiveAll (inline_in f) (inline_in g) to g.result
    pub lefts : All (IsOtherLeft (inline_in f)) to

  pub record IsFine (x : Layer) : Type 0 where
    pub typed : WellTyped (among q.funs) x
    pub row : RowAt x
    pub clear : All (IsClear f) (used_by x)
    pub unmarked : IsUnmarked x
    pub called : All (IsFunction q) (called_by x)

-- calls: what typing gives of a call
module _ (q : Program) (f : Fun) (calls : (g : Fun) (to : List Lval) (n : List ℕ) (args : List Expr) (at : Span) → function_named n q.funs ≡ Some g → IsFine q f (StmtKind-F.Assign to None (rhs.Call n args at) None) → CallsInline q f g to args) where
  abbrev callees : Callees
  callees = callees_in q

  abbrev asked : Names
  asked = has_to_be_set f

  abbrev K : Names → NameSet
  K s = Known asked s

  abbrev Said : Stmt → Type 0
  Said s = IsFine q f (layer_of s)

  abbrev flow_of_kind : StmtKind → Flow
  flow_of_kind = fold-StmtKind Flow Flow flow_step (λ s. s.kind)

  abbrev set_of : Stmt → Setting
  set_of = fold-Stmt Setting Setting set_step (λ s. s.kind)

  abbrev set_of_kind : StmtKind → Setting
  set_of_kind = fold-StmtKind Setting Setting set_step (λ s. s.kind)

  -- a piece of a tree, where what stands round it sets nothing wrongly and nothing is read too early
  abbrev Before : Setting → Flow → (Block → Block) → Type 0
  Before set flow g =
      (w : Around) (s : Names) → set w ≡ [] → first asked flow s ≡ None → (r : Block) (s2 : NameSet)
      → IsInlineBody q f w.inside (K (after asked flow s)) r s2 → IsInlineBody q f w.inside (K s) (g r) s2

  abbrev tree_of_kind : StmtKind → Span → Block → Block
  tree_of_kind = fold-StmtKind _ _ (kind_tree callees) (λ s. s.kind s.span)

  abbrev StmtLaw : Stmt → Type 0
  StmtLaw s = All Said (statements_in s) → Before (set_of s) (flow_of s) (statement_tree callees s)

  abbrev KindLaw : StmtKind → Type 0
  KindLaw k = All Said (in_kind k) → IsFine q f (out-StmtKind k) → (at : Span) → Before (set_of_kind k) (flow_of_kind k) (tree_of_kind k at)

  abbrev Parts : Type 0
  Parts = StmtKind-F ((k : StmtKind) × KindLaw k) ((s : Stmt) × StmtLaw s)

  abbrev bare : Parts → StmtKind-F StmtKind Stmt
  bare y = map-StmtKind _ _ _ _ (λ e. e.0) (λ e. e.0) y

  abbrev firsts : List ((s : Stmt) × StmtLaw s) → List Stmt
  firsts ss = map (λ e. e.0) ss

  abbrev trees : Parts → StmtKind-F (Span → Block → Block) (Block → Block)
  trees y = map-StmtKind _ _ (Span → Block → Block) (Block → Block) tree_of_kind (statement_tree callees) (bare y)

  abbrev flows : Parts → StmtKind-F Flow Flow
  flows y = map-StmtKind _ _ Flow Flow flow_of_kind flow_of (bare y)

  abbrev settings : Parts → StmtKind-F Setting Setting
  settings y = map-StmtKind _ _ Setting Setting set_of_kind set_of (bare y)

  abbrev all_flow : List ((s : Stmt) × StmtLaw s) → Flow
  all_flow ss = in_turn (map flow_of (firsts ss))

  abbrev all_setting : List ((s : Stmt) × StmtLaw s) → Setting
  all_setting ss = all_set (map set_of (firsts ss))

  abbrev all_tree : List ((s : Stmt) × StmtLaw s) → Block → Block
  all_tree ss = in_order (map (statement_tree callees) (firsts ss))

  rows : (ss : List ((s : Stmt) × StmtLaw s)) → All Said (nested_statements (map pair (firsts ss))) → Before (all_setting ss) (all_flow ss) (all_tree ss)
  rows [] h w s set read r s2 b = b
  rows (x ∷ ss) h w s set read r s2 b =
      let p = parted Said (statements_in x.0) (nested_statements (map pair (firsts ss))) h in
      let e = both (set_of x.0 w) (all_setting ss w) set in
      let d = none_both (first asked (flow_of x.0) s) (first asked (all_flow ss) (after asked (flow_of x.0) s)) read in
      x.1 p.0 w s e.0 d.0 (all_tree ss r) s2 (rows ss p.1 w (after asked (flow_of x.0) s) e.1 d.1 r s2 b)

  -- by themselves
  arm : (ss : List ((s : Stmt) × StmtLaw s)) → All Said (nested_statements (map pair (firsts ss))) → (w : Around) (s : Names) → all_setting ss w ≡ [] → first asked (all_flow ss) s ≡ None
      → IsInlineBody q f w.inside (K s) (all_tree ss done) (K (after asked (all_flow ss) s))
  arm ss h w s set read = rows ss h w s set read done (K (after asked (all_flow ss) s)) inline_done

  -- ---- assignments

  called : (to : List Lval) (n : List ℕ) (args : List Expr) (place : Span) → IsFine q f (StmtKind-F.Assign to None (rhs.Call n args place) None) → (i : Bool) (s : Names) (r : Block) (s2 : NameSet)
      → IsInlineBody q f i (K (after asked (assigning to None (rhs.Call n args place) None) s)) r s2 → IsInlineBody q f i (K s) (call_tree (callees n) to None args None place r) s2
  called to n args place fine i s r s2 b =
      let g = some_there (function_named n q.funs) (All-head (IsFunction q) (n, place) [] fine.called) in
      let c = calls g.0 to n args place g.1 fine in
      subst (λ o. IsInlineBody q f i (K s) (call_tree o to None args None place r) s2) (sym (ap (with_own_tree q) g.1))
      (inline_call c.among refl (c.named place) c.passes c.gives (assigned_within asked (inline_in f) (λ m k e. e) to None (rhs.Call n args place) None s c.lefts) b)

  values_of : (to : List Lval) (o : Option BinOp) (x : Expr) (c : Option Expr) → WellTyped (among q.funs) (StmtKind-F.Assign to o (rhs.Value x) c) → Values to o x × well.Condition c
  values_of to o x c (well.assigned h t) = (h, t)

  instructs_of : (to : List Lval) (n : List ℕ) (args : List Expr) (at : Span) → WellTyped (among q.funs) (StmtKind-F.Assign to None (rhs.Intrinsic n args at) None) → Instructs (signature n) to args
  instructs_of to n args at (well.assigned h t) = h

  assigned : (to : List Lval) (o : Option BinOp) (from : Rhs) (c : Option Expr) (at : Span) → IsFine q f (StmtKind-F.Assign to o from c) → Before (λ w. flat_map (λ l. left_set l w) to) (assigning to o from c) (assign_tree callees to o from c at)
  assigned to o (rhs.Value x) c at fine w s set read r s2 b =
      let t = values_of to o x c fine.typed in
      let v = value_sets f w s to o x c at t.0 t.1 fine.row fine.clear set read in inline_op v.0 v.1 b
  assigned to None (rhs.Call n args place) None at fine w s set read r s2 b = called to n args place fine w.inside s r s2 b
  assigned to None (rhs.Call n args place) (Some c) at fine w s set read r s2 b = absurd (no_free (subst (λ z. Matches z) (no_conditional to None (rhs.Call n args place) c tt) (fine.row refl).1))
  assigned to (Some o) (rhs.Call n args place) None at fine w s set read r s2 b = absurd (no_free (fine.row refl).1)
  assigned to (Some o) (rhs.Call n args place) (Some c) at fine w s set read r s2 b = absurd (no_free (subst (λ z. Matches z) (no_conditional to (Some o) (rhs.Call n args place) c tt) (fine.row refl).1))
  assigned to None (rhs.Intrinsic n args place) None at fine w s set read r s2 b =
      let v = instruction_sets f w s to n args place (instructs_of to n args place fine.typed) fine.row fine.clear in inline_op v.0 v.1 b
  assigned to None (rhs.Intrinsic n args place) (Some c) at fine w s set read r s2 b = absurd (no_free (subst (λ z. Matches z) (no_conditional to None (rhs.Intrinsic n args place) c tt) (fine.row refl).1))
  assigned to (Some o) (rhs.Intrinsic n args place) None at fine w s set read r s2 b = absurd (no_free (fine.row refl).1)
  assigned to (Some o) (rhs.Intrinsic n args place) (Some c) at fine w s set read r s2 b = absurd (no_free (subst (λ z. Matches z) (no_conditional to (Some o) (rhs.Intrinsic n args place) c tt) (fine.row refl).1))

  -- ---- tests and counters

  abbrev E : Expr → Type 0
  E e = All (IsClear f) (vars_in e)

  record IsTested (c : Expr) : Type 0 where
    text : is_text c ≡ true
    named : has_named (inline_in f) c ≡ true

  tested : (c : Expr) → HasType (value c) truth → All (IsClear f) (flat_map vars_in (c ∷ []) ++ []) → IsTested c
  tested c t h =
      let e = All-head E c [] (flat_parts (IsClear f) vars_in (c ∷ []) (parted (IsClear f) (flat_map vars_in (c ∷ [])) [] h).0) in
      record { text = expr_text f c e; named = expr_named f c truth t e }

  test_of : {c : Expr} {a b : List Stmt} → WellTyped (among q.funs) (StmtKind-F.If c a b) → HasType (value c) truth
  test_of (well.branch t) = t

  loop_test_of : {p : List Stmt} {c : Expr} {b : Option (List Stmt)} → WellTyped (among q.funs) (StmtKind-F.While p c b) → HasType (value c) truth
  loop_test_of (well.loop t) = t

  record IsCounted (k : Counter) : Type 0 where
    named : IsNamedCounter (inlines_of f) k
    counts : CountsInline (inline_in f) k

  counted : (i : Var) (from to : Expr) (down : Bool) (b : List Stmt) (at : Span) → WellTyped (among q.funs) (StmtKind-F.For i from down to b) → All (IsClear f) (flat_map vars_in (from ∷ to ∷ []) ++ i ∷ [])
      → IsCounted (record { counter = i; from = from; down = down; to = to; at = at })
  counted i from to down b at (well.rounds e s t) h =
      let p = parted (IsClear f) (flat_map vars_in (from ∷ to ∷ [])) (i ∷ []) h in
      let es = flat_parts (IsClear f) vars_in (from ∷ to ∷ []) p.0 in
      let ef = All-head E from (to ∷ []) es in
      let et = All-head E to [] (All-tail E from (to ∷ []) es) in
      let c = All-head (IsClear f) i [] p.1 in
      let v = inline_var f i c e in
      let nf = number_is f from s ef in
      let nt = number_is f to t et in
      record {
        named = record { counter = v.number; text = var_text f i c; from = (expr_text f from ef, nf.inline); to = (expr_text f to et, nt.inline) };
        counts = record { counter = v; from = nf; to = nt };
      }

  -- ---- sets

  read_same : (c : Expr) (s : Names) → after asked (reading_expr c) s ≡ s
  read_same c s = idle_expr asked c s

  and_or : (a b c : Bool) → ((a && b) || c) ≡ true → ((a || c) ≡ true) × ((b || c) ≡ true)
  and_or true b c e = (refl, e)
  and_or false true c e = (e, refl)
  and_or false false c e = (e, e)

  -- ---- layers

  if_law : (c : Expr) (y z : List ((s : Stmt) × StmtLaw s)) → All Said (nested_statements (map pair (firsts y)) ++ nested_statements (map pair (firsts z))) → IsTested c → (at : Span)
      → Before (λ w. all_setting y (entered_around (not (is_inline c)) w) ++ all_setting z (entered_around (not (is_inline c)) w)) (Then (reading_expr c) (Either (all_flow y) (all_flow z)))
      (λ r. choose (record { cond = c; at = at }) (all_tree y done) (all_tree z done) r)
  if_law c y z h d at w s set read r s2 b =
      let p = parted Said (nested_statements (map pair (firsts y))) (nested_statements (map pair (firsts z))) h in
      let v = entered_around (not (is_inline c)) w in
      let e = both (all_setting y v) (all_setting z v) set in
      let u = none_both (first asked (reading_expr c) s) _ read in
      let t = after asked (reading_expr c) s in
      let k = none_both (first asked (all_flow y) t) (first asked (all_flow z) t) u.1 in
      subst (λ x. IsInlineBody q f w.inside (K x) (choose (record { cond = c; at = at }) (all_tree y done) (all_tree z done) r) s2) (read_same c s)
      (inline_choose d.text d.named (arm y p.0 v t e.0 k.0) (arm z p.1 v t e.1 k.1)
      (λ n i m. (and_or (after asked (all_flow y) t n) (after asked (all_flow z) t n) (not (asked n)) m).0)
      (λ n i m. (and_or (after asked (all_flow y) t n) (after asked (all_flow z) t n) (not (asked n)) m).1) b)

  while_law : (p : List ((s : Stmt) × StmtLaw s)) (c : Expr) (y : List ((s : Stmt) × StmtLaw s)) → All Said (nested_statements (map pair (firsts p)) ++ nested_statements (map pair (firsts y))) → IsTested c → (at : Span)
      → Before (λ w. all_setting p (entered_around true w) ++ all_setting y (entered_around true w)) (Then (Repeat (Then (all_flow p) (Then (reading_expr c) (all_flow y)))) (Then (all_flow p) (reading_expr c)))
      (λ r. loop false (all_tree p done) (record { cond = c; at = at }) (all_tree y done) r)
  while_law p c y h d at w s set read r s2 b =
      let l = parted Said (nested_statements (map pair (firsts p))) (nested_statements (map pair (firsts y))) h in
      let v = entered_around true w in
      let e = both (all_setting p v) (all_setting y v) set in
      let u = none_both (first asked (Repeat (Then (all_flow p) (Then (reading_expr c) (all_flow y)))) s) _ read in
      let m = none_both (first asked (all_flow p) s) _ u.0 in
      let sq = after asked (all_flow p) s in
      let n = none_both (first asked (reading_expr c) sq) _ m.1 in
      inline_loop d.text d.named (arm p l.0 v s e.0 m.0)
      (subst (λ x. IsInlineBody q f true (K x) (all_tree y done) (K (after asked (all_flow y) (after asked (reading_expr c) sq)))) (read_same c sq) (arm y l.1 v (after asked (reading_expr c) sq) e.1 n.1))
      (subst (λ x. IsInlineBody q f w.inside (K x) r s2) (read_same c sq) b)

  bare_law : (p : List ((s : Stmt) × StmtLaw s)) (c : Expr) → All Said (nested_statements (map pair (firsts p))) → IsTested c → (at : Span)
      → Before (λ w. all_setting p (entered_around true w)) (Then (Repeat (Then (all_flow p) (reading_expr c))) (Then (all_flow p) (reading_expr c)))
      (λ r. loop true (all_tree p done) (record { cond = c; at = at }) done r)
  bare_law p c h d at w s set read r s2 b =
      let v = entered_around true w in
      let u = none_both (first asked (Repeat (Then (all_flow p) (reading_expr c))) s) _ read in
      let m = none_both (first asked (all_flow p) s) _ u.0 in
      let sq = after asked (all_flow p) s in
      inline_loop d.text d.named (arm p h v s set m.0) inline_done (subst (λ x. IsInlineBody q f w.inside (K x) r s2) (read_same c sq) b)

  for_law : (i : Var) (from : Expr) (down : Bool) (to : Expr) (y : List ((s : Stmt) × StmtLaw s)) → All Said (nested_statements (map pair (firsts y))) → (at : Span) → IsCounted (record { counter = i; from = from; down = down; to = to; at = at })
      → Before (λ w. unless (not (is_counter w i)) (out-Var i).span ++ all_setting y (counting i w)) (Then (reading_expr from) (Then (reading_expr to) (turns_of (name_of i).0 (all_flow y))))
      (λ r. each (record { counter = i; from = from; down = down; to = to; at = at }) (all_tree y done) r)
  for_law i from down to y h at d w s set read r s2 b =
      let e = both (unless (not (is_counter w i)) (out-Var i).span) (all_setting y (counting i w)) set in
      let u = none_both (first asked (reading_expr from) s) _ read in
      let s1 = after asked (reading_expr from) s in
      let m = none_both (first asked (reading_expr to) s1) _ u.1 in
      let s3 = after asked (reading_expr to) s1 in
      let same : s3 ≡ s = read_same to s1 ∙ read_same from s in
      let n : (first asked (Does (Sets (name_of i).0)) s3 ≡ None) × (first asked (all_flow y) (put asked (name_of i).0 s3) ≡ None) = none_both _ _ m.1 in
      subst (λ x. IsInlineBody q f w.inside (K x) (each (record { counter = i; from = from; down = down; to = to; at = at }) (all_tree y done) r) s2) same
      (inline_each d.named d.counts (λ k z t. by_name (put_known asked (name_of i).0 s3 k t)) (arm y h (counting i w) (put asked (name_of i).0 s3) e.1 n.1) b)
    where
      by_name : {A : Type 0} {k : List ℕ} → A ⊎ ((name_of i).0 ≡ k) → A ⊎ ((ref_of i).name ≡ k)
      by_name (inl t) = inl t
      by_name (inr t) = inr (ref_name i ∙ t)

  layer_law : (y : Parts) → All Said (nested_step (pairs (bare y))) → IsFine q f (bare y) → (at : Span) → Before (set_step (settings y)) (flow_step (flows y)) (kind_tree callees (trees y) at)
  unfolding pairs
  layer_law (StmtKind-F.Assign to o from c) h d at = assigned to o from c at d
  layer_law (StmtKind-F.If c y z) h d at = if_law c y z h (tested c (test_of d.typed) d.clear) at
  layer_law (StmtKind-F.While p c None) h d at = bare_law p c h (tested c (loop_test_of d.typed) d.clear) at
  layer_law (StmtKind-F.While p c (Some y)) h d at = while_law p c y h (tested c (loop_test_of d.typed) d.clear) at
  layer_law (StmtKind-F.For i from down to y) h d at = for_law i from down to y h at (counted i from to down (firsts y) at d.typed d.clear)
  layer_law (StmtKind-F.Mark xs) h d at = absurd d.unmarked

  kind_case : (y : Parts) → KindLaw (roll-StmtKind (bare y))
  kind_case y h d at =
      let z = bare y in
      subst (λ (g : Span → Block → Block). Before (set_of_kind (roll-StmtKind z)) (flow_of_kind (roll-StmtKind z)) (g at)) (sym (fold-roll-StmtKind _ _ (kind_tree callees) (λ s. s.kind s.span) z))
      (subst (λ (m : Setting). Before m (flow_of_kind (roll-StmtKind z)) (kind_tree callees (trees y) at)) (sym (fold-roll-StmtKind _ _ set_step (λ s. s.kind) z))
      (subst (λ m. Before (set_step (settings y)) m (kind_tree callees (trees y) at)) (sym (fold-roll-StmtKind _ _ flow_step (λ s. s.kind) z))
      (layer_law y (subst (All Said) (opened z) h) (subst (IsFine q f) (out-roll-StmtKind z) d) at)))

  stmt_case : (y : Stmt-F ((k : StmtKind) × KindLaw k) ((s : Stmt) × StmtLaw s)) → StmtLaw (roll-Stmt (map-Stmt _ _ StmtKind Stmt (λ e. e.0) (λ e. e.0) y))
  stmt_case y h =
      let z = map-Stmt _ _ StmtKind Stmt (λ e. e.0) (λ e. e.0) y in
      let k : All Said (roll-Stmt z ∷ in_kind z.kind) = subst (All Said) (in_stmt z) h in
      subst (λ g. Before (set_of (roll-Stmt z)) (flow_of (roll-Stmt z)) g) (sym (fold-roll-Stmt _ _ (kind_tree callees) (λ s. s.kind s.span) z))
      (subst (λ (m : Setting). Before m (flow_of (roll-Stmt z)) (tree_of_kind z.kind z.span)) (sym (fold-roll-Stmt _ _ set_step (λ s. s.kind) z))
      (subst (λ m. Before (set_of_kind z.kind) m (tree_of_kind z.kind z.span)) (sym (fold-roll-Stmt _ _ flow_step (λ s. s.kind) z))
      (y.kind.1 (All-tail Said (roll-Stmt z) (in_kind z.kind) k) (All-head Said (roll-Stmt z) (in_kind z.kind) k) y.span)))

  statement_holds : (s : Stmt) → StmtLaw s
  statement_holds =
      ind-Stmt KindLaw StmtLaw
      (λ z y is. subst (λ z. KindLaw (roll-StmtKind z)) is (kind_case y))
      (λ z y is. subst (λ z. StmtLaw (roll-Stmt z)) is (stmt_case y))

  block_holds : (ss : List Stmt) → All Said (statements_of ss) → Before (all_set (map set_of ss)) (in_turn (map flow_of ss)) (block callees ss)
  block_holds [] h w s set read r s2 b = b
  block_holds (x ∷ ss) h w s set read r s2 b =
      let p = parted Said (statements_in x) (statements_of ss) h in
      let e = both (set_of x w) (all_set (map set_of ss) w) set in
      let d = none_both (first asked (flow_of x) s) (first asked (in_turn (map flow_of ss)) (after asked (flow_of x) s)) read in
      statement_holds x p.0 w s e.0 d.0 (block callees ss r) s2 (block_holds ss p.1 w (after asked (flow_of x) s) e.1 d.1 r s2 b)

  pub body_holds : HasNoRecursion q → All Said (statements_of f.body) → wrongly_set_in f.body ≡ [] → (s : Names) → first asked (flow_of_all f.body) s ≡ None
      → IsInlineBody q f false (K s) (body_of q f) (K (after asked (flow_of_all f.body) s))
  body_holds never fine set s read =
      subst (λ t. IsInlineBody q f false (K s) t (K (after asked (flow_of_all f.body) s))) (sym (whole_law q f never))
      (block_holds f.body fine outermost s set read done (K (after asked (flow_of_all f.body) s)) inline_done)
