-- The tree of a function's body, with the bodies that it calls, is typed.
use Rattle.std.proofs.Common.{◌≡◌, ℕ, List, [], ◌∷◌, Option, Some, None, true, map, bytes_eq, refl, sym, ap, subst}
use Rattle.std.specs.Prelude.{All, Contains, is_some, ⊤}
use Rattle.std.proofs.lemmas.Bool.{false≢true}
use Rattle.std.proofs.lemmas.List.Elements.{All-head, All-tail, All-contains, All-contains_itself}
use Rattle.jz_tree.specs.Span.{Span}
use Rattle.jz_tree.specs.declared.expr.BinOp.{BinOp}
use Rattle.jz_tree.specs.declared.expr.Expr.{Expr}
use Rattle.jz_tree.specs.declared.stmt.Lval.{Lval}
use Rattle.jz_tree.specs.declared.stmt.Rhs.{Rhs}
use Rattle.jz_tree.specs.declared.stmt.Rhs.TheVariants as rhs
use Rattle.jz_tree.specs.declared.stmt.Stmt.{Stmt}
use Rattle.jz_tree.specs.declared.stmt.StmtKind.{StmtKind}
use Rattle.jz_tree.specs.declared.stmt.StmtKind.TheOpen.{StmtKind-F, Stmt-F}
use Rattle.jz_tree.specs.declared.stmt.StmtKind.TheViews.{out-StmtKind, out-roll-StmtKind, roll-Stmt, roll-StmtKind}
use Rattle.jz_tree.specs.declared.stmt.StmtKind.TheFolds.{fold-StmtKind, fold-roll-Stmt, fold-roll-StmtKind, ind-Stmt, map-Stmt, map-StmtKind}
use Rattle.jz_tree.specs.declared.program.Fun.{Fun}
use Rattle.jz_tree.specs.declared.program.Program.{Program}
use Rattle.jz_type_names.specs.Scopes.{function_named}
use Rattle.jz_type_names.specs.Parts.{Layer, layer_of, called_by, nested_statements, nested_step, statements_in, statements_of}
use Rattle.jz_type_names.proofs.NestedLaws.{in_kind, pair, pairs, opened, in_stmt}
use Rattle.jz_type_sizes.specs.Mismatches.{among}
use Rattle.jz_type_sizes.specs.Signatures.{signature}
use Rattle.jz_judgement.specs.Places.{truth}
use Rattle.jz_judgement.specs.HasType.{value, HasType}
use Rattle.jz_judgement.specs.WellTyped as well
use Rattle.jz_judgement.specs.WellTyped.{Calls, Instructs, WellTyped}
use Rattle.jz_types.specs.TypedPrograms.{IsTypedProgram}
use Rattle.jz_runs.specs.Trees.{done, op, quiet, choose, loop, each, call}
use Rattle.jz_meaning.specs.Statements.{Block}
use Rattle.jz_meaning.specs.Runs.{Callees, in_order, call_tree, assign_tree, kind_tree, statement_tree, block, body_of}
use Rattle.jz_run_laws.specs.Depths.{HasNoRecursion, with_own_tree, callees_in}
use Rattle.jz_run_laws.proofs.Parts.{there_is}
use Rattle.jz_run_laws.proofs.Uncut.{whole_law, typed_law}
use Rattle.jz_texts.specs.Texts.{IsText}
use Rattle.jz_texts.specs.Declared.{IsFunction}
use Rattle.jz_texts.proofs.Lists.{parted}
use Rattle.jz_bodies.proofs.Trees.{found}
use Rattle.jz_bodies.proofs.Whole as whole
use Rattle.jz_bodies.proofs.Whole.{all_known}
use Rattle.jz_kept_types.specs.Operations.{IsTyped, IsTypedTest}

some_there : {A : Type 0} (o : Option A) → is_some o ≡ true → (x : A) × (o ≡ Some x)
some_there None e = absurd (false≢true e)
some_there (Some x) e = (x, refl)

module _ (q : Program) where
  -- a body of which each call holds the body of a function of the program
  abbrev HoldsTyped : Block → Type 0
  HoldsTyped done = ⊤
  HoldsTyped (op o r) = IsTyped o × HoldsTyped r
  HoldsTyped (quiet o r) = HoldsTyped r
  HoldsTyped (choose p a b r) = IsTypedTest p × HoldsTyped a × HoldsTyped b × HoldsTyped r
  HoldsTyped (loop h w p b r) = IsTypedTest p × HoldsTyped w × HoldsTyped b × HoldsTyped r
  HoldsTyped (each i b r) = HoldsTyped b × HoldsTyped r
  HoldsTyped (call c b r) = Contains q.funs c.callee × (b ≡ body_of q c.callee) × Calls (Some c.callee) c.to c.args × HoldsTyped r

  -- the same down into the bodies
  abbrev pub IsTypedTree : Block → Type 0
  IsTypedTree done = ⊤
  IsTypedTree (op o r) = IsTyped o × IsTypedTree r
  IsTypedTree (quiet o r) = IsTypedTree r
  IsTypedTree (choose p a b r) = IsTypedTest p × IsTypedTree a × IsTypedTree b × IsTypedTree r
  IsTypedTree (loop h w p b r) = IsTypedTest p × IsTypedTree w × IsTypedTree b × IsTypedTree r
  IsTypedTree (each i b r) = IsTypedTree b × IsTypedTree r
  IsTypedTree (call c b r) = Contains q.funs c.callee × Calls (Some c.callee) c.to c.args × IsTypedTree b × IsTypedTree r

  -- what typing says of a statement, without those that stand in it
  pub record IsSaid (x : Layer) : Type 0 where
    pub typed : WellTyped (among q.funs) x
    pub called : All (IsFunction q) (called_by x)

  abbrev callees : Callees
  callees = callees_in q

  abbrev Said : Stmt → Type 0
  Said s = IsSaid (layer_of s)

  abbrev Before : (Block → Block) → Type 0
  Before g = (r : Block) → HoldsTyped r → HoldsTyped (g r)

  abbrev kind_of : StmtKind → Span → Block → Block
  kind_of = fold-StmtKind _ _ (kind_tree callees) (λ s. s.kind s.span)

  abbrev StmtLaw : Stmt → Type 0
  StmtLaw s = All Said (statements_in s) → Before (statement_tree callees s)

  abbrev KindLaw : StmtKind → Type 0
  KindLaw k = All Said (in_kind k) → IsSaid (out-StmtKind k) → (at : Span) → Before (kind_of k at)

  abbrev Parts : Type 0
  Parts = StmtKind-F ((k : StmtKind) × KindLaw k) ((s : Stmt) × StmtLaw s)

  abbrev bare : Parts → StmtKind-F StmtKind Stmt
  bare y = map-StmtKind _ _ _ _ (λ e. e.0) (λ e. e.0) y

  abbrev firsts : List ((s : Stmt) × StmtLaw s) → List Stmt
  firsts ss = map (λ e. e.0) ss

  abbrev mapped : Parts → StmtKind-F (Span → Block → Block) (Block → Block)
  mapped y = map-StmtKind _ _ (Span → Block → Block) (Block → Block) kind_of (statement_tree callees) (bare y)

  rows : (ss : List ((s : Stmt) × StmtLaw s)) → All Said (nested_statements (map pair (firsts ss))) → Before (in_order (map (statement_tree callees) (firsts ss)))
  rows [] h r b = b
  rows (s ∷ ss) h r b =
      let p = parted Said (statements_in s.0) (nested_statements (map pair (firsts ss))) h in
      s.1 p.0 (in_order (map (statement_tree callees) (firsts ss)) r) (rows ss p.1 r b)

  -- ---- what is said, taken apart
  value_typed : (to : List Lval) (o : Option BinOp) (e : Expr) (c : Option Expr) → WellTyped (among q.funs) (StmtKind-F.Assign to o (rhs.Value e) c) → well.RightSide None to o (rhs.Value e) × well.Condition c
  value_typed to o e c (well.assigned h k) = (h, k)

  call_typed : (to : List Lval) (o : Option BinOp) (n : List ℕ) (args : List Expr) (place : Span) (c : Option Expr) → WellTyped (among q.funs) (StmtKind-F.Assign to o (rhs.Call n args place) c) → Calls (function_named n q.funs) to args
  call_typed to o n args place c (well.assigned h k) = h

  instruction_typed : (to : List Lval) (n : List ℕ) (args : List Expr) (place : Span) (c : Option Expr) → WellTyped (among q.funs) (StmtKind-F.Assign to None (rhs.Intrinsic n args place) c) → Instructs (signature n) to args
  instruction_typed to n args place c (well.assigned h k) = h

  branch_typed : (c : Expr) (a b : List Stmt) → WellTyped (among q.funs) (StmtKind-F.If c a b) → HasType (value c) truth
  branch_typed c a b (well.branch h) = h

  loop_typed : (p : List Stmt) (c : Expr) (b : Option (List Stmt)) → WellTyped (among q.funs) (StmtKind-F.While p c b) → HasType (value c) truth
  loop_typed p c b (well.loop h) = h

  -- ---- assignments
  within : (n : List ℕ) (g : Fun) → function_named n q.funs ≡ Some g → Contains q.funs g
  within n g e = there_is (Contains q.funs) (function_named n q.funs) g e (found (Contains q.funs) (λ h. bytes_eq n h.name) q.funs (All-contains_itself q.funs))

  of_callee : (g : Fun) (to : List Lval) (o : Option BinOp) (args : List Expr) (c : Option Expr) (place : Span) (r : Block) → Contains q.funs g → Calls (Some g) to args → HoldsTyped r
      → HoldsTyped (call_tree (with_own_tree q (Some g)) to o args c place r)
  of_callee g to None args None place r has k b = (has, refl, k, b)
  of_callee g to None args (Some c) place r has k b = (tt, b)
  of_callee g to (Some o) args None place r has k b = (tt, b)
  of_callee g to (Some o) args (Some c) place r has k b = (tt, b)

  assigned : (to : List Lval) (o : Option BinOp) (from : Rhs) (c : Option Expr) (at : Span) → IsSaid (StmtKind-F.Assign to o from c) → Before (assign_tree callees to o from c at)
  assigned to o (rhs.Value e) c at s r b = (value_typed to o e c s.typed, b)
  assigned to o (rhs.Call n args place) c at s r b =
      let g = some_there (function_named n q.funs) (All-head (IsFunction q) (n, place) [] s.called) in
      let k = subst (λ x. Calls x to args) g.1 (call_typed to o n args place c s.typed) in
      subst (λ x. HoldsTyped (call_tree x to o args c place r)) (sym (ap (with_own_tree q) g.1)) (of_callee g.0 to o args c place r (within n g.0 g.1) k b)
  assigned to None (rhs.Intrinsic n args place) None at s r b = (instruction_typed to n args place None s.typed, b)
  assigned to None (rhs.Intrinsic n args place) (Some c) at s r b = (tt, b)
  assigned to (Some o) (rhs.Intrinsic n args place) None at s r b = (tt, b)
  assigned to (Some o) (rhs.Intrinsic n args place) (Some c) at s r b = (tt, b)

  -- ---- layers
  layer_law : (y : Parts) → All Said (nested_step (pairs (bare y))) → IsSaid (bare y) → (at : Span) → Before (kind_tree callees (mapped y) at)
  unfolding pairs
  layer_law (StmtKind-F.Assign to o from c) h d at r b = assigned to o from c at d r b
  layer_law (StmtKind-F.If c y z) h d at r b =
      let p = parted Said (nested_statements (map pair (firsts y))) (nested_statements (map pair (firsts z))) h in
      (branch_typed c (firsts y) (firsts z) d.typed, rows y p.0 done tt, rows z p.1 done tt, b)
  layer_law (StmtKind-F.While p c None) h d at r b = (loop_typed (firsts p) c None d.typed, rows p h done tt, tt, b)
  layer_law (StmtKind-F.While p c (Some y)) h d at r b =
      let w = parted Said (nested_statements (map pair (firsts p))) (nested_statements (map pair (firsts y))) h in
      (loop_typed (firsts p) c (Some (firsts y)) d.typed, rows p w.0 done tt, rows y w.1 done tt, b)
  layer_law (StmtKind-F.For i from down to y) h d at r b = (rows y h done tt, b)
  layer_law (StmtKind-F.Mark xs) h d at r b = b

  kind_case : (y : Parts) → KindLaw (roll-StmtKind (bare y))
  kind_case y h d at =
      let z = bare y in
      subst (λ (g : Span → Block → Block). Before (g at)) (sym (fold-roll-StmtKind _ _ (kind_tree callees) (λ s. s.kind s.span) z))
      (layer_law y (subst (All Said) (opened z) h) (subst IsSaid (out-roll-StmtKind z) d) at)

  stmt_case : (y : Stmt-F ((k : StmtKind) × KindLaw k) ((s : Stmt) × StmtLaw s)) → StmtLaw (roll-Stmt (map-Stmt _ _ StmtKind Stmt (λ e. e.0) (λ e. e.0) y))
  stmt_case y h =
      let z = map-Stmt _ _ StmtKind Stmt (λ e. e.0) (λ e. e.0) y in
      let k : All Said (roll-Stmt z ∷ in_kind z.kind) = subst (All Said) (in_stmt z) h in
      subst Before (sym (fold-roll-Stmt _ _ (kind_tree callees) (λ s. s.kind s.span) z))
      (y.kind.1 (All-tail Said (roll-Stmt z) (in_kind z.kind) k) (All-head Said (roll-Stmt z) (in_kind z.kind) k) y.span)

  statement_holds : (s : Stmt) → StmtLaw s
  statement_holds =
      ind-Stmt KindLaw StmtLaw
      (λ z y is. subst (λ z. KindLaw (roll-StmtKind z)) is (kind_case y))
      (λ z y is. subst (λ z. StmtLaw (roll-Stmt z)) is (stmt_case y))

  block_holds : (ss : List Stmt) → All Said (statements_of ss) → Before (block callees ss)
  block_holds [] h r b = b
  block_holds (s ∷ ss) h r b =
      let p = parted Said (statements_in s) (statements_of ss) h in
      statement_holds s p.0 (block callees ss r) (block_holds ss p.1 r b)

  said_of : (f : Fun) → whole.IsKnown q f → All Said (statements_of f.body)
  said_of f k = λ i s l. record { typed = k.well.1 i s l; called = k.names.called i s l }

  body_holds : (f : Fun) → HasNoRecursion q → whole.IsKnown q f → HoldsTyped (body_of q f)
  body_holds f never k = subst HoldsTyped (sym (whole_law q f never)) (block_holds f.body (said_of f k) done tt)

-- ---- down the tree, into the bodies that it holds
module _ (q : Program) (h : IsTypedProgram q) (text : IsText q) where
  holds : (f : Fun) → Contains q.funs f → HoldsTyped q (body_of q f)
  holds f has = body_holds q f (typed_law q h) (All-contains (whole.IsKnown q) q.funs f (all_known q h text) has)

  each_body : (t : Block) → HoldsTyped q t → IsTypedTree q t
  each_body done k = tt
  each_body (op o r) k = (k.0, each_body r k.1)
  each_body (quiet o r) k = each_body r k
  each_body (choose p a b r) k = (k.0, each_body a k.1, each_body b k.2, each_body r k.3)
  each_body (loop w p t b r) k = (k.0, each_body p k.1, each_body b k.2, each_body r k.3)
  each_body (each i b r) k = (each_body b k.0, each_body r k.1)
  each_body (call c b r) k = (k.0, k.2, each_body b (subst (HoldsTyped q) (sym k.1) (holds c.callee k.0)), each_body r k.3)

  pub tree_typed : (f : Fun) → Contains q.funs f → IsTypedTree q (body_of q f)
  tree_typed f has = each_body (body_of q f) (holds f has)
