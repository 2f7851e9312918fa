-- The tree of a function's body, with the bodies that it calls: each assignment that needs
-- a row has one, and each intrinsic.
use Rattle.std.proofs.Common.{◌≡◌, ℕ, List, [], ◌∷◌, Option, Some, None, true, false, not, map, bytes_eq, refl, sym, ap, subst}
use Rattle.std.specs.Prelude.{All, Contains, is_some, slice_index_or, ⊤}
use Rattle.std.proofs.lemmas.Bool.{false≢true}
use Rattle.std.proofs.lemmas.List.Elements.{All-head, All-tail, All-contains, All-contains_itself}
use Rattle.jz_tree.specs.Span.{Span}
use Rattle.jz_tree.specs.declared.expr.BinOp.{BinOp}
use Rattle.jz_tree.specs.declared.expr.Expr.{Expr}
use Rattle.jz_tree.specs.declared.stmt.Lval.{Lval}
use Rattle.jz_tree.specs.declared.stmt.Rhs.{Rhs}
use Rattle.jz_tree.specs.declared.stmt.Rhs.TheVariants as rhs
use Rattle.jz_tree.specs.declared.stmt.Stmt.{Stmt}
use Rattle.jz_tree.specs.declared.stmt.StmtKind.{StmtKind}
use Rattle.jz_tree.specs.declared.stmt.StmtKind.TheOpen.{StmtKind-F, Stmt-F}
use Rattle.jz_tree.specs.declared.stmt.StmtKind.TheViews.{out-StmtKind, out-roll-StmtKind, roll-Stmt, roll-StmtKind}
use Rattle.jz_tree.specs.declared.stmt.StmtKind.TheFolds.{fold-StmtKind, fold-roll-Stmt, fold-roll-StmtKind, ind-Stmt, map-Stmt, map-StmtKind}
use Rattle.jz_tree.specs.declared.program.Fun.{Fun}
use Rattle.jz_tree.specs.declared.program.Program.{Program}
use Rattle.jz_type_names.specs.Scopes.{function_named}
use Rattle.jz_type_names.specs.Parts.{Layer, layer_of, called_by, nested_statements, nested_step, statements_in, statements_of}
use Rattle.jz_type_names.proofs.NestedLaws.{in_kind, pair, pairs, opened, in_stmt}
use Rattle.jz_type_rows.specs.Matching.{needs_row}
use Rattle.jz_select.specs.declared.shape.Shape.TheVariants as shapes
use Rattle.jz_select.specs.Places.{Answers}
use Rattle.jz_select.specs.Shapes.{whichever, conditional, kind_layer}
use Rattle.jz_types.specs.TypedPrograms.{IsTypedProgram}
use Rattle.jz_runs.specs.Trees.{done, op, quiet, choose, loop, each, call}
use Rattle.jz_meaning.specs.Statements.{assign, Block}
use Rattle.jz_meaning.specs.Runs.{Callees, in_order, call_tree, assign_tree, kind_tree, statement_tree, block, body_of}
use Rattle.jz_run_laws.specs.Depths.{HasNoRecursion, with_own_tree, callees_in}
use Rattle.jz_run_laws.proofs.Parts.{there_is}
use Rattle.jz_run_laws.proofs.Uncut.{whole_law, typed_law}
use Rattle.jz_row_laws.proofs.Copied.{Matches, no_free}
use Rattle.jz_texts.specs.Texts.{IsText}
use Rattle.jz_texts.specs.Declared.{IsFunction}
use Rattle.jz_texts.proofs.Lists.{parted}
use Rattle.jz_bodies.proofs.Trees.{found}
use Rattle.jz_bodies.proofs.Whole as whole
use Rattle.jz_bodies.proofs.Whole.{all_known}
use Rattle.jz_kept_patterns.proofs.Selecting.{selected_always}
use Rattle.jz_expanded_patterns.proofs.Bodies.{IfRow, IfRows}

some_there : {A : Type 0} (o : Option A) → is_some o ≡ true → (x : A) × (o ≡ Some x)
some_there None e = absurd (false≢true e)
some_there (Some x) e = (x, refl)

-- ---- what has no row
abbrev NoValue : Rhs → Type 0
NoValue (rhs.Value e) = ⊥
NoValue (rhs.Call n args at) = ⊤
NoValue (rhs.Intrinsic n args at) = ⊤

free_conditional : (to : List Lval) (o : Option BinOp) (r : Rhs) (c : Expr) → NoValue r → conditional to o r c ≡ shapes.Free
free_conditional [] o r c n = refl
free_conditional (d ∷ []) None (rhs.Value e) c n = absurd n
free_conditional (d ∷ []) None (rhs.Call m args at) c n = refl
free_conditional (d ∷ []) None (rhs.Intrinsic m args at) c n = refl
free_conditional (d ∷ []) (Some o) r c n = refl
free_conditional (d ∷ b ∷ ds) o r c n = refl

no_conditional : (to : List Lval) (o : Option BinOp) (r : Rhs) (c : Expr) → NoValue r → Matches (conditional to o r c) → ⊥
no_conditional to o r c n m = no_free (subst Matches (free_conditional to o r c n) m)

no_answers : Answers
no_answers x y = false

module _ (q : Program) where
  -- a body of which each call holds the body of a function of the program
  abbrev HoldsRows : Block → Type 0
  HoldsRows done = ⊤
  HoldsRows (op o r) = IfRow o × HoldsRows r
  HoldsRows (quiet o r) = HoldsRows r
  HoldsRows (choose p a b r) = HoldsRows a × HoldsRows b × HoldsRows r
  HoldsRows (loop h w p b r) = HoldsRows w × HoldsRows b × HoldsRows r
  HoldsRows (each i b r) = HoldsRows b × HoldsRows r
  HoldsRows (call c b r) = Contains q.funs c.callee × (b ≡ body_of q c.callee) × HoldsRows r

  -- what rows say of a statement, without those that stand in it
  pub record IsSaid (x : Layer) : Type 0 where
    pub row : needs_row x ≡ true → (answers : Answers) → Matches (kind_layer (whichever answers) x)
    pub called : All (IsFunction q) (called_by x)

  abbrev callees : Callees
  callees = callees_in q

  abbrev Said : Stmt → Type 0
  Said s = IsSaid (layer_of s)

  abbrev Before : (Block → Block) → Type 0
  Before g = (r : Block) → HoldsRows r → HoldsRows (g r)

  abbrev kind_of : StmtKind → Span → Block → Block
  kind_of = fold-StmtKind _ _ (kind_tree callees) (λ s. s.kind s.span)

  abbrev StmtLaw : Stmt → Type 0
  StmtLaw s = All Said (statements_in s) → Before (statement_tree callees s)

  abbrev KindLaw : StmtKind → Type 0
  KindLaw k = All Said (in_kind k) → IsSaid (out-StmtKind k) → (at : Span) → Before (kind_of k at)

  abbrev Parts : Type 0
  Parts = StmtKind-F ((k : StmtKind) × KindLaw k) ((s : Stmt) × StmtLaw s)

  abbrev bare : Parts → StmtKind-F StmtKind Stmt
  bare y = map-StmtKind _ _ _ _ (λ e. e.0) (λ e. e.0) y

  abbrev firsts : List ((s : Stmt) × StmtLaw s) → List Stmt
  firsts ss = map (λ e. e.0) ss

  abbrev mapped : Parts → StmtKind-F (Span → Block → Block) (Block → Block)
  mapped y = map-StmtKind _ _ (Span → Block → Block) (Block → Block) kind_of (statement_tree callees) (bare y)

  rows : (ss : List ((s : Stmt) × StmtLaw s)) → All Said (nested_statements (map pair (firsts ss))) → Before (in_order (map (statement_tree callees) (firsts ss)))
  rows [] h r b = b
  rows (s ∷ ss) h r b =
      let p = parted Said (statements_in s.0) (nested_statements (map pair (firsts ss))) h in
      s.1 p.0 (in_order (map (statement_tree callees) (firsts ss)) r) (rows ss p.1 r b)

  -- ---- what is said, taken apart
  value_rowed : (to : List Lval) (o : Option BinOp) (e : Expr) (c : Option Expr) (at : Span) → IsSaid (StmtKind-F.Assign to o (rhs.Value e) c) → IfRow (assign to o e c at)
  value_rowed [] o e c at s = tt
  value_rowed (d ∷ []) o e c at s = λ n. s.row (ap not n)
  value_rowed (f ∷ d ∷ []) o e None at s = s.row refl
  value_rowed (f ∷ d ∷ []) o e (Some c) at s = tt
  value_rowed (f ∷ d ∷ b ∷ ds) o e c at s = tt

  -- ---- assignments
  within : (n : List ℕ) (g : Fun) → function_named n q.funs ≡ Some g → Contains q.funs g
  within n g e = there_is (Contains q.funs) (function_named n q.funs) g e (found (Contains q.funs) (λ h. bytes_eq n h.name) q.funs (All-contains_itself q.funs))

  called : (to : List Lval) (n : List ℕ) (args : List Expr) (place at : Span) → IsSaid (StmtKind-F.Assign to None (rhs.Call n args place) None) → Before (call_tree (callees n) to None args None place)
  called to n args place at s r b =
      let g = some_there (function_named n q.funs) (All-head (IsFunction q) (n, place) [] s.called) in
      subst (λ x. HoldsRows (call_tree x to None args None place r)) (sym (ap (with_own_tree q) g.1)) (within n g.0 g.1, refl, b)

  assigned : (to : List Lval) (o : Option BinOp) (from : Rhs) (c : Option Expr) (at : Span) → IsSaid (StmtKind-F.Assign to o from c) → Before (assign_tree callees to o from c at)
  assigned to o (rhs.Value e) c at s r b = (value_rowed to o e c at s, b)
  assigned to None (rhs.Call n args place) None at s r b = called to n args place at s r b
  assigned to None (rhs.Call n args place) (Some c) at s r b = absurd (no_conditional to None (rhs.Call n args place) c tt (s.row refl no_answers))
  assigned to (Some o) (rhs.Call n args place) None at s r b = absurd (no_free (s.row refl no_answers))
  assigned to (Some o) (rhs.Call n args place) (Some c) at s r b = absurd (no_conditional to (Some o) (rhs.Call n args place) c tt (s.row refl no_answers))
  assigned to None (rhs.Intrinsic n args place) None at s r b = (s.row refl, b)
  assigned to None (rhs.Intrinsic n args place) (Some c) at s r b = absurd (no_conditional to None (rhs.Intrinsic n args place) c tt (s.row refl no_answers))
  assigned to (Some o) (rhs.Intrinsic n args place) None at s r b = absurd (no_free (s.row refl no_answers))
  assigned to (Some o) (rhs.Intrinsic n args place) (Some c) at s r b = absurd (no_conditional to (Some o) (rhs.Intrinsic n args place) c tt (s.row refl no_answers))

  -- ---- layers
  layer_law : (y : Parts) → All Said (nested_step (pairs (bare y))) → IsSaid (bare y) → (at : Span) → Before (kind_tree callees (mapped y) at)
  unfolding pairs
  layer_law (StmtKind-F.Assign to o from c) h d at r b = assigned to o from c at d r b
  layer_law (StmtKind-F.If c y z) h d at r b =
      let p = parted Said (nested_statements (map pair (firsts y))) (nested_statements (map pair (firsts z))) h in
      (rows y p.0 done tt, rows z p.1 done tt, b)
  layer_law (StmtKind-F.While p c None) h d at r b = (rows p h done tt, tt, b)
  layer_law (StmtKind-F.While p c (Some y)) h d at r b =
      let w = parted Said (nested_statements (map pair (firsts p))) (nested_statements (map pair (firsts y))) h in
      (rows p w.0 done tt, rows y w.1 done tt, b)
  layer_law (StmtKind-F.For i from down to y) h d at r b = (rows y h done tt, b)
  layer_law (StmtKind-F.Mark xs) h d at r b = b

  kind_case : (y : Parts) → KindLaw (roll-StmtKind (bare y))
  kind_case y h d at =
      let z = bare y in
      subst (λ (g : Span → Block → Block). Before (g at)) (sym (fold-roll-StmtKind _ _ (kind_tree callees) (λ s. s.kind s.span) z))
      (layer_law y (subst (All Said) (opened z) h) (subst IsSaid (out-roll-StmtKind z) d) at)

  stmt_case : (y : Stmt-F ((k : StmtKind) × KindLaw k) ((s : Stmt) × StmtLaw s)) → StmtLaw (roll-Stmt (map-Stmt _ _ StmtKind Stmt (λ e. e.0) (λ e. e.0) y))
  stmt_case y h =
      let z = map-Stmt _ _ StmtKind Stmt (λ e. e.0) (λ e. e.0) y in
      let k : All Said (roll-Stmt z ∷ in_kind z.kind) = subst (All Said) (in_stmt z) h in
      subst Before (sym (fold-roll-Stmt _ _ (kind_tree callees) (λ s. s.kind s.span) z))
      (y.kind.1 (All-tail Said (roll-Stmt z) (in_kind z.kind) k) (All-head Said (roll-Stmt z) (in_kind z.kind) k) y.span)

  statement_holds : (s : Stmt) → StmtLaw s
  statement_holds =
      ind-Stmt KindLaw StmtLaw
      (λ z y is. subst (λ z. KindLaw (roll-StmtKind z)) is (kind_case y))
      (λ z y is. subst (λ z. StmtLaw (roll-Stmt z)) is (stmt_case y))

  block_holds : (ss : List Stmt) → All Said (statements_of ss) → Before (block callees ss)
  block_holds [] h r b = b
  block_holds (s ∷ ss) h r b =
      let p = parted Said (statements_in s) (statements_of ss) h in
      statement_holds s p.0 (block callees ss r) (block_holds ss p.1 r b)

  body_holds : (f : Fun) → HasNoRecursion q → All Said (statements_of f.body) → HoldsRows (body_of q f)
  body_holds f never k = subst HoldsRows (sym (whole_law q f never)) (block_holds f.body k done tt)

-- ---- down the tree, into the bodies that it holds
module _ (q : Program) (h : IsTypedProgram q) (text : IsText q) where
  said_of : (f : Fun) → Contains q.funs f → All (λ s. IsSaid q (layer_of s)) (statements_of f.body)
  said_of f has =
      let k = All-contains (whole.IsKnown q) q.funs f (all_known q h text) has in
      λ i s l. record {
        row = λ e. (let r = (k.rows i s l).0 e in selected_always (slice_index_or (statements_of f.body) i s).kind r.0 r.1);
        called = k.names.called i s l;
      }

  holds : (f : Fun) → Contains q.funs f → HoldsRows q (body_of q f)
  holds f has = body_holds q f (typed_law q h) (said_of f has)

  each_body : (t : Block) → HoldsRows q t → IfRows t
  each_body done k = tt
  each_body (op o r) k = (k.0, each_body r k.1)
  each_body (quiet o r) k = each_body r k
  each_body (choose p a b r) k = (each_body a k.0, each_body b k.1, each_body r k.2)
  each_body (loop w p t b r) k = (each_body p k.0, each_body b k.1, each_body r k.2)
  each_body (each i b r) k = (each_body b k.0, each_body r k.1)
  each_body (call c b r) k = (each_body b (subst (HoldsRows q) (sym k.1) (holds c.callee k.0)), each_body r k.2)

  pub source_rows : (f : Fun) → Contains q.funs f → IfRows (body_of q f)
  source_rows f has = each_body (body_of q f) (holds f has)
