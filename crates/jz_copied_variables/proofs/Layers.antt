-- The tree of a function's body with the bodies that it calls: each statement is typed, and indexes of arrays in registers are integers.
use Rattle.std.proofs.Common.{◌≡◌, ℕ, List, [], ◌∷◌, ◌++◌, Option, Some, None, true, false, map, flat_map, bytes_eq, refl, sym, ap, subst}
use Rattle.std.specs.Prelude.{All, Contains, is_some}
use Rattle.std.proofs.lemmas.Bool.{false≢true}
use Rattle.std.proofs.lemmas.List.Elements.{All-head, All-tail, All-contains, All-contains_itself}
use Rattle.jz_tree.specs.Span.{Span}
use Rattle.jz_tree.specs.declared.expr.BinOp.{BinOp}
use Rattle.jz_tree.specs.declared.expr.Expr.{Expr}
use Rattle.jz_tree.specs.declared.expr.Var.{Var}
use Rattle.jz_tree.specs.declared.stmt.Lval.{Lval}
use Rattle.jz_tree.specs.declared.stmt.Rhs.{Rhs}
use Rattle.jz_tree.specs.declared.stmt.Rhs.TheVariants as rhs
use Rattle.jz_tree.specs.declared.stmt.Stmt.{Stmt}
use Rattle.jz_tree.specs.declared.stmt.StmtKind.{StmtKind}
use Rattle.jz_tree.specs.declared.stmt.StmtKind.TheOpen.{StmtKind-F, Stmt-F}
use Rattle.jz_tree.specs.declared.stmt.StmtKind.TheViews.{out-StmtKind, out-roll-StmtKind, roll-Stmt, roll-StmtKind}
use Rattle.jz_tree.specs.declared.stmt.StmtKind.TheFolds.{fold-StmtKind, fold-roll-Stmt, fold-roll-StmtKind, ind-Stmt, map-Stmt, map-StmtKind}
use Rattle.jz_tree.specs.declared.program.Fun.{Fun}
use Rattle.jz_tree.specs.declared.program.Program.{Program}
use Rattle.jz_runs.specs.Trees.{done, op, quiet, choose, loop, each, call}
use Rattle.jz_type_names.specs.Scopes.{function_named}
use Rattle.jz_type_names.specs.Parts.{Layer, layer_of, nested_statements, nested_step, statements_in, statements_of}
use Rattle.jz_type_names.proofs.NestedLaws.{in_kind, pair, pairs, opened, in_stmt}
use Rattle.jz_type_names.proofs.Empty.{all_empty, no_member}
use Rattle.jz_type_rows.specs.Indexes.{indexed_in, indexed_by}
use Rattle.jz_type_rows.specs.Programs.{of_statement, in_body, in_statements}
use Rattle.jz_select.specs.Places.{Answers}
use Rattle.jz_select.specs.declared.shape.Shape as rowed
use Rattle.jz_select.specs.declared.shape.Shape.TheVariants as shapes
use Rattle.jz_select.specs.Shapes.{conditional}
use Rattle.jz_type_sizes.specs.Mismatches.{among}
use Rattle.jz_judgement.specs.WellTyped as well
use Rattle.jz_judgement.specs.WellTyped.{Calls}
use Rattle.jz_resolve.specs.Programs.{resolved_program}
use Rattle.jz_types.specs.TypedPrograms.{IsTypedProgram}
use Rattle.jz_types.specs.declared.fault.TypeRule.TheVariants as rule
use Rattle.jz_types.specs.Carried.{vars_in, used_by}
use Rattle.jz_meaning.specs.Statements.{Operation, assign, instruction, unset, meaningless, Condition, Call, Block}
use Rattle.jz_meaning.specs.Runs.{Callees, in_order, call_tree, assign_tree, kind_tree, statement_tree, block, body_of}
use Rattle.jz_run_laws.specs.Depths.{HasNoRecursion, with_own_tree, callees_in}
use Rattle.jz_run_laws.proofs.Parts.{there_is}
use Rattle.jz_run_laws.proofs.Uncut.{whole_law, typed_law}
use Rattle.jz_row_laws.proofs.Copied.{Matches, no_free}
use Rattle.jz_texts.specs.Declared.{IsFunction}
use Rattle.jz_texts.proofs.Lists.{parted}
use Rattle.jz_bodies.proofs.Trees.{found}
use Rattle.jz_bodies.proofs.Variables.{flat_parts}
use Rattle.jz_typed_runs.specs.TypedTexts.{IsTypedText}
use Rattle.jz_stuck_runs.proofs.Statements.{IsGood, all_ready}
use Rattle.jz_copied_variables.proofs.Source.{Kept, HasKept, Indexed}

-- ---- the rule of indexes
indexed_none : (q : Program) → IsTypedProgram q → in_statements indexed_by q ≡ []
indexed_none q h = subst (λ z. in_statements indexed_by z ≡ []) (sym h.same) (no_member (in_statements indexed_by (resolved_program h.source)) (λ at c. h.typed rule.RegIndex at c))

all_indexed : (q : Program) → IsTypedProgram q → All (λ f. All (λ s. indexed_by (layer_of s) ≡ []) (statements_of f.body)) q.funs
all_indexed q h =
    let each = all_empty (in_body indexed_by) q.funs (indexed_none q h) in
    λ i f l. all_empty (of_statement indexed_by) _ (each i f l)

-- ---- what is known of each part
module _ (q : Program) (f : Fun) where
  pub record IsSaid (x : Layer) : Type 0 where
    pub good : IsGood q f x
    pub indexed : indexed_by x ≡ []

  abbrev pub OperationOf : Operation → Type 0
  OperationOf (assign to o e c at) = IsSaid (StmtKind-F.Assign to o (rhs.Value e) c)
  OperationOf (instruction to n args at) = IsSaid (StmtKind-F.Assign to None (rhs.Intrinsic n args at) None)
  OperationOf (unset xs) = ⊥
  OperationOf (meaningless at) = ⊥

  pub record TestOf (c : Condition) : Type 0 where
    pub kept : HasKept q f c.cond
    pub indexed : Indexed q f c.cond

  pub record CallOf (c : Call) : Type 0 where
    pub of_program : Contains q.funs c.callee
    pub calls : Calls (Some c.callee) c.to c.args
    pub name : List ℕ
    pub place : Span
    pub said : IsSaid (StmtKind-F.Assign c.to None (rhs.Call name c.args place) None)

  -- a tree of which each call holds the body of its callee
  abbrev pub HoldsParts : Block → Type 0
  HoldsParts done = Unit {0}
  HoldsParts (op o r) = OperationOf o × HoldsParts r
  HoldsParts (quiet o r) = ⊥
  HoldsParts (choose t a b r) = TestOf t × HoldsParts a × HoldsParts b × HoldsParts r
  HoldsParts (loop w p t b r) = TestOf t × HoldsParts p × HoldsParts b × HoldsParts r
  HoldsParts (each k b r) = HoldsParts b × HoldsParts r
  HoldsParts (call c b r) = CallOf c × (b ≡ body_of q c.callee) × HoldsParts r

  one_kept : (x : Layer) (c : Expr) (vs : List Var) → used_by x ≡ flat_map vars_in (c ∷ []) ++ vs → All (Kept q f) (used_by x) → HasKept q f c
  one_kept x c vs is k =
      let a = parted (Kept q f) (flat_map vars_in (c ∷ [])) vs (subst (All (Kept q f)) is k) in
      All-head (HasKept q f) c [] (flat_parts (Kept q f) vars_in (c ∷ []) a.0)

  test_of : (c : Expr) (a b : List Stmt) (at : Span) → IsSaid (StmtKind-F.If c a b) → TestOf (record { cond = c; at = at })
  test_of c a b at s = record {
    kept = one_kept (StmtKind-F.If c a b) c [] refl s.good.kept;
    indexed = All-head (Indexed q f) c [] (all_empty indexed_in (c ∷ []) s.indexed);
  }

  turn_of : (p : List Stmt) (c : Expr) (b : Option (List Stmt)) (at : Span) → IsSaid (StmtKind-F.While p c b) → TestOf (record { cond = c; at = at })
  turn_of p c b at s = record {
    kept = one_kept (StmtKind-F.While p c b) c [] refl s.good.kept;
    indexed = All-head (Indexed q f) c [] (all_empty indexed_in (c ∷ []) s.indexed);
  }

-- ---- trees
abbrev NoValue : Rhs → Type 0
NoValue (rhs.Value e) = ⊥
NoValue (rhs.Call n args at) = Unit {0}
NoValue (rhs.Intrinsic n args at) = Unit {0}

free_conditional : (to : List Lval) (o : Option BinOp) (r : Rhs) (c : Expr) → NoValue r → conditional to o r c ≡ shapes.Free
free_conditional [] o r c n = refl
free_conditional (d ∷ []) None (rhs.Value e) c n = absurd n
free_conditional (d ∷ []) None (rhs.Call m args at) c n = refl
free_conditional (d ∷ []) None (rhs.Intrinsic m args at) c n = refl
free_conditional (d ∷ []) (Some o) r c n = refl
free_conditional (d ∷ b ∷ ds) o r c n = refl

no_row : {s : rowed.Shape} → s ≡ shapes.Free → (answers : Answers) × Matches s → ⊥
no_row e m = no_free (subst Matches e m.1)

some_there : {A : Type 0} (o : Option A) → is_some o ≡ true → (x : A) × (o ≡ Some x)
some_there None e = absurd (false≢true e)
some_there (Some x) e = (x, refl)

module _ (q : Program) (f : Fun) where
  abbrev callees : Callees
  callees = callees_in q

  abbrev Said : Stmt → Type 0
  Said s = IsSaid q f (layer_of s)

  -- before what holds parts
  abbrev Before : (Block → Block) → Type 0
  Before g = (r : Block) → HoldsParts q f r → HoldsParts q f (g r)

  abbrev kind_of : StmtKind → Span → Block → Block
  kind_of = fold-StmtKind _ _ (kind_tree callees) (λ s. s.kind s.span)

  abbrev StmtLaw : Stmt → Type 0
  StmtLaw s = All Said (statements_in s) → Before (statement_tree callees s)

  abbrev KindLaw : StmtKind → Type 0
  KindLaw k = All Said (in_kind k) → IsSaid q f (out-StmtKind k) → (at : Span) → Before (kind_of k at)

  abbrev Parts : Type 0
  Parts = StmtKind-F ((k : StmtKind) × KindLaw k) ((s : Stmt) × StmtLaw s)

  abbrev bare : Parts → StmtKind-F StmtKind Stmt
  bare y = map-StmtKind _ _ _ _ (λ e. e.0) (λ e. e.0) y

  abbrev firsts : List ((s : Stmt) × StmtLaw s) → List Stmt
  firsts ss = map (λ e. e.0) ss

  abbrev mapped : Parts → StmtKind-F (Span → Block → Block) (Block → Block)
  mapped y = map-StmtKind _ _ (Span → Block → Block) (Block → Block) kind_of (statement_tree callees) (bare y)

  rows : (ss : List ((s : Stmt) × StmtLaw s)) → All Said (nested_statements (map pair (firsts ss))) → Before (in_order (map (statement_tree callees) (firsts ss)))
  rows [] h r b = b
  rows (s ∷ ss) h r b =
      let p = parted Said (statements_in s.0) (nested_statements (map pair (firsts ss))) h in
      s.1 p.0 (in_order (map (statement_tree callees) (firsts ss)) r) (rows ss p.1 r b)

  -- ---- assignments
  within : (n : List ℕ) (g : Fun) → function_named n q.funs ≡ Some g → Contains q.funs g
  within n g e = there_is (Contains q.funs) (function_named n q.funs) g e (found (Contains q.funs) (λ h. bytes_eq n h.name) q.funs (All-contains_itself q.funs))

  call_of : (to : List Lval) (n : List ℕ) (args : List Expr) (at : Span) (g : Fun) → function_named n q.funs ≡ Some g → IsSaid q f (StmtKind-F.Assign to None (rhs.Call n args at) None)
      → CallOf q f (record { to = to; callee = g; args = args; at = at })
  call_of to n args at g e said = by_type said.good.typed
    where
      by_type : well.WellTyped (among q.funs) (StmtKind-F.Assign to None (rhs.Call n args at) None) → CallOf q f (record { to = to; callee = g; args = args; at = at })
      by_type (well.assigned h c) = record { of_program = within n g e; calls = subst (λ o. Calls o to args) e h; name = n; place = at; said = said }

  called : (to : List Lval) (n : List ℕ) (args : List Expr) (place at : Span) → IsSaid q f (StmtKind-F.Assign to None (rhs.Call n args place) None) → Before (call_tree (callees n) to None args None place)
  called to n args place at good r b =
      let g = some_there (function_named n q.funs) (All-head (IsFunction q) (n, place) [] good.good.called) in
      subst (λ o. HoldsParts q f (call_tree o to None args None place r)) (sym (ap (with_own_tree q) g.1)) (call_of to n args place g.0 g.1 good, refl, b)

  assigned : (to : List Lval) (o : Option BinOp) (from : Rhs) (c : Option Expr) (at : Span) → IsSaid q f (StmtKind-F.Assign to o from c) → Before (assign_tree callees to o from c at)
  assigned to o (rhs.Value e) c at good r b = (good, b)
  assigned to None (rhs.Call n args place) None at good r b = called to n args place at good r b
  assigned to None (rhs.Call n args place) (Some c) at good r b = absurd (no_row (free_conditional to None (rhs.Call n args place) c tt) (good.good.row refl))
  assigned to (Some o) (rhs.Call n args place) None at good r b = absurd (no_free (good.good.row refl).1)
  assigned to (Some o) (rhs.Call n args place) (Some c) at good r b = absurd (no_row (free_conditional to (Some o) (rhs.Call n args place) c tt) (good.good.row refl))
  assigned to None (rhs.Intrinsic n args place) None at good r b = (good, b)
  assigned to None (rhs.Intrinsic n args place) (Some c) at good r b = absurd (no_row (free_conditional to None (rhs.Intrinsic n args place) c tt) (good.good.row refl))
  assigned to (Some o) (rhs.Intrinsic n args place) None at good r b = absurd (no_free (good.good.row refl).1)
  assigned to (Some o) (rhs.Intrinsic n args place) (Some c) at good r b = absurd (no_row (free_conditional to (Some o) (rhs.Intrinsic n args place) c tt) (good.good.row refl))

  -- ---- layers
  layer_law : (y : Parts) → All Said (nested_step (pairs (bare y))) → IsSaid q f (bare y) → (at : Span) → Before (kind_tree callees (mapped y) at)
  unfolding pairs
  layer_law (StmtKind-F.Assign to o from c) h d at r b = assigned to o from c at d r b
  layer_law (StmtKind-F.If c y z) h d at r b =
      let p = parted Said (nested_statements (map pair (firsts y))) (nested_statements (map pair (firsts z))) h in
      (test_of q f c (firsts y) (firsts z) at d, rows y p.0 done tt, rows z p.1 done tt, b)
  layer_law (StmtKind-F.While p c None) h d at r b = (turn_of q f (firsts p) c None at d, rows p h done tt, tt, b)
  layer_law (StmtKind-F.While p c (Some y)) h d at r b =
      let w = parted Said (nested_statements (map pair (firsts p))) (nested_statements (map pair (firsts y))) h in
      (turn_of q f (firsts p) c (Some (firsts y)) at d, rows p w.0 done tt, rows y w.1 done tt, b)
  layer_law (StmtKind-F.For i from down to y) h d at r b = (rows y h done tt, b)
  layer_law (StmtKind-F.Mark xs) h d at r b = absurd d.good.unmarked

  kind_case : (y : Parts) → KindLaw (roll-StmtKind (bare y))
  kind_case y h d at =
      let z = bare y in
      subst (λ (g : Span → Block → Block). Before (g at)) (sym (fold-roll-StmtKind _ _ (kind_tree callees) (λ s. s.kind s.span) z))
      (layer_law y (subst (All Said) (opened z) h) (subst (IsSaid q f) (out-roll-StmtKind z) d) at)

  stmt_case : (y : Stmt-F ((k : StmtKind) × KindLaw k) ((s : Stmt) × StmtLaw s)) → StmtLaw (roll-Stmt (map-Stmt _ _ StmtKind Stmt (λ e. e.0) (λ e. e.0) y))
  stmt_case y h =
      let z = map-Stmt _ _ StmtKind Stmt (λ e. e.0) (λ e. e.0) y in
      let k : All Said (roll-Stmt z ∷ in_kind z.kind) = subst (All Said) (in_stmt z) h in
      subst Before (sym (fold-roll-Stmt _ _ (kind_tree callees) (λ s. s.kind s.span) z))
      (y.kind.1 (All-tail Said (roll-Stmt z) (in_kind z.kind) k) (All-head Said (roll-Stmt z) (in_kind z.kind) k) y.span)

  statement_holds : (s : Stmt) → StmtLaw s
  statement_holds =
      ind-Stmt KindLaw StmtLaw
      (λ z y is. subst (λ z. KindLaw (roll-StmtKind z)) is (kind_case y))
      (λ z y is. subst (λ z. StmtLaw (roll-Stmt z)) is (stmt_case y))

  block_holds : (ss : List Stmt) → All Said (statements_of ss) → Before (block callees ss)
  block_holds [] h r b = b
  block_holds (s ∷ ss) h r b =
      let p = parted Said (statements_in s) (statements_of ss) h in
      statement_holds s p.0 (block callees ss r) (block_holds ss p.1 r b)

  body_holds : HasNoRecursion q → All Said (statements_of f.body) → HoldsParts q f (body_of q f)
  body_holds never said = subst (HoldsParts q f) (sym (whole_law q f never)) (block_holds f.body said done tt)

-- ---- of each function of a typed text
module _ (q : Program) (h : IsTypedText q) where
  all_said : All (λ f. All (λ s. IsSaid q f (layer_of s)) (statements_of f.body)) q.funs
  all_said =
      let ready = all_ready q h in
      let indexed = all_indexed q h.typed in
      λ i f l j s m. record { good = (ready i f l).good j s m; indexed = indexed i f l j s m }

  pub holds : (f : Fun) → Contains q.funs f → HoldsParts q f (body_of q f)
  holds f has = body_holds q f (typed_law q h.typed) (All-contains (λ g. All (λ s. IsSaid q g (layer_of s)) (statements_of g.body)) q.funs f all_said has)
