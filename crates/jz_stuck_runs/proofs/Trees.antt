-- Each part to which a run comes is a part of a statement of its function.
use Rattle.std.proofs.Common.{◌≡◌, ℕ, List, [], ◌∷◌, ◌++◌, Option, Some, None, Bool, true, false, map, flat_map, bytes_eq, refl, sym, ap, subst, if◌then◌else◌}
use Rattle.std.specs.Prelude.{ℤ, All, Contains, is_some, option_to_list}
use Rattle.std.proofs.lemmas.Bool.{false≢true}
use Rattle.std.proofs.lemmas.List.Elements.{All-head, All-tail, All-contains, All-contains_itself}
use Rattle.jz_tree.specs.Span.{Span}
use Rattle.jz_tree.specs.declared.expr.BinOp.{BinOp}
use Rattle.jz_tree.specs.declared.expr.Expr.{Expr}
use Rattle.jz_tree.specs.declared.expr.Var.{Var}
use Rattle.jz_tree.specs.declared.stmt.Lval.{Lval}
use Rattle.jz_tree.specs.declared.stmt.Rhs.{Rhs}
use Rattle.jz_tree.specs.declared.stmt.Rhs.TheVariants as rhs
use Rattle.jz_tree.specs.declared.stmt.Stmt.{Stmt}
use Rattle.jz_tree.specs.declared.stmt.StmtKind.{StmtKind}
use Rattle.jz_tree.specs.declared.stmt.StmtKind.TheOpen.{StmtKind-F, Stmt-F}
use Rattle.jz_tree.specs.declared.stmt.StmtKind.TheViews.{out-StmtKind, out-roll-StmtKind, roll-Stmt, roll-StmtKind}
use Rattle.jz_tree.specs.declared.stmt.StmtKind.TheFolds.{fold-StmtKind, fold-roll-Stmt, fold-roll-StmtKind, ind-Stmt, map-Stmt, map-StmtKind}
use Rattle.jz_tree.specs.declared.program.Fun.{Fun}
use Rattle.jz_tree.specs.declared.program.Program.{Program}
use Rattle.jz_meaning.specs.Trees.{done, op, quiet, choose, loop, each, call}
use Rattle.jz_type_names.specs.Scopes.{function_named}
use Rattle.jz_type_names.specs.Parts.{Layer, layer_of, nested_statements, nested_step, statements_in, statements_of, left_exprs, left_vars, exprs_of}
use Rattle.jz_type_names.proofs.NestedLaws.{in_kind, pair, pairs, opened, in_stmt}
use Rattle.jz_select.specs.Places.{Answers}
use Rattle.jz_select.specs.declared.shape.Shape as rowed
use Rattle.jz_select.specs.declared.shape.Shape.TheVariants as shapes
use Rattle.jz_select.specs.Shapes.{conditional}
use Rattle.jz_type_sizes.specs.Mismatches.{among}
use Rattle.jz_judgement.specs.Places as place
use Rattle.jz_judgement.specs.HasType.{value, HasType}
use Rattle.jz_judgement.specs.WellTyped as well
use Rattle.jz_judgement.specs.WellTyped.{Calls}
use Rattle.jz_types.specs.Carried.{vars_in, used_by, declared_in}
use Rattle.jz_meaning.specs.Statements.{Operation, assign, instruction, unset, meaningless, Condition, Counter, Call, Block, source}
use Rattle.jz_meaning.specs.States.{State}
use Rattle.jz_meaning.specs.Runs.{Callees, in_order, call_tree, assign_tree, kind_tree, statement_tree, block, body_of}
use Rattle.jz_run_laws.specs.DeclaredKinds.{LeftDeclared, ArraysDeclared}
use Rattle.jz_run_laws.specs.Depths.{HasNoRecursion, with_own_tree, callees_in}
use Rattle.jz_run_laws.specs.Texts.{ArgumentsDeclared}
use Rattle.jz_run_laws.proofs.Parts.{there_is}
use Rattle.jz_run_laws.proofs.Uncut.{whole_law}
use Rattle.jz_row_laws.proofs.Copied.{Matches, no_free}
use Rattle.jz_texts.specs.Declared.{IsFunction}
use Rattle.jz_texts.proofs.Lists.{parted}
use Rattle.jz_bodies.proofs.Trees.{found}
use Rattle.jz_bodies.proofs.Variables.{flat_parts}
use Rattle.jz_typed_runs.specs.TypedTexts.{kinds_in}
use Rattle.jz_typed_runs.specs.Reached.{operation, test, bounds, arguments, results, Comes, ComesInTurns, ComesInRounds}
use Rattle.jz_typed_runs.specs.Reached as reached
use Rattle.jz_typed_runs.specs.Runs.{SourcePart, callee_of}
use Rattle.jz_stuck_runs.proofs.Expressions.{Kept, HasKept}
use Rattle.jz_stuck_runs.proofs.Statements.{InlineNumber, IsGood, AreGood}

-- ---- what is known of each part
module _ (q : Program) (f : Fun) where
  abbrev pub E : Expr → Type 0
  E e = HasKept (declared_in q f) e

  -- the parts of an assignment
  pub record HasParts (to : List Lval) (es : List Expr) (cond : Option Expr) : Type 0 where
    pub lefts : All E (flat_map left_exprs to)
    pub vars : All (Kept (declared_in q f)) (flat_map left_vars to)
    pub inline : All InlineNumber (flat_map left_vars to)
    pub rights : All E es
    pub conds : All E (option_to_list cond)

  abbrev pub OperationOf : Operation → Type 0
  OperationOf (assign to o e c at) = IsGood q f (StmtKind-F.Assign to o (rhs.Value e) c)
  OperationOf (instruction to n args at) = IsGood q f (StmtKind-F.Assign to None (rhs.Intrinsic n args at) None)
  OperationOf (unset xs) = ⊥
  OperationOf (meaningless at) = ⊥

  pub record TestOf (c : Condition) : Type 0 where
    pub kept : E c.cond
    pub typed : HasType (value c.cond) place.truth

  pub record CounterOf (k : Counter) : Type 0 where
    pub from : E k.from
    pub to : E k.to
    pub from_typed : HasType (value k.from) place.integer
    pub to_typed : HasType (value k.to) place.integer

  pub record CallOf (c : Call) : Type 0 where
    pub of_program : Contains q.funs c.callee
    pub calls : Calls (Some c.callee) c.to c.args
    pub parts : HasParts c.to c.args None
    pub lefts : All (LeftDeclared (kinds_in q f)) c.to
    pub arrays : ArraysDeclared (kinds_in q f) c.callee.params c.args

  -- a tree of which each call holds the body of its callee
  abbrev pub HoldsParts : Block → Type 0
  HoldsParts done = Unit {0}
  HoldsParts (op o r) = OperationOf o × HoldsParts r
  HoldsParts (quiet o r) = ⊥
  HoldsParts (choose t a b r) = TestOf t × HoldsParts a × HoldsParts b × HoldsParts r
  HoldsParts (loop w p t b r) = TestOf t × HoldsParts p × HoldsParts b × HoldsParts r
  HoldsParts (each k b r) = CounterOf k × HoldsParts b × HoldsParts r
  HoldsParts (call c b r) = CallOf c × (b ≡ body_of q c.callee) × HoldsParts r

  abbrev pub PartOf : SourcePart → Type 0
  PartOf (operation o) = OperationOf o
  PartOf (test c) = TestOf c
  PartOf (bounds k) = CounterOf k
  PartOf (arguments c) = CallOf c
  PartOf (results c t) = CallOf c

  -- ---- the parts of a statement
  pub assign_parts : (to : List Lval) (o : Option BinOp) (from : Rhs) (es : List Expr) (cond : Option Expr) → exprs_of (StmtKind-F.Assign to o from cond) ≡ flat_map left_exprs to ++ es ++ option_to_list cond
      → IsGood q f (StmtKind-F.Assign to o from cond) → HasParts to es cond
  assign_parts to o from es cond is g =
      let a = parted (Kept (declared_in q f)) (flat_map vars_in (exprs_of (StmtKind-F.Assign to o from cond))) (flat_map left_vars to) g.kept in
      let b = subst (All E) is (flat_parts (Kept (declared_in q f)) vars_in (exprs_of (StmtKind-F.Assign to o from cond)) a.0) in
      let c = parted E (flat_map left_exprs to ++ es) (option_to_list cond) b in
      let d = parted E (flat_map left_exprs to) es c.0 in
      record {
        lefts = d.0;
        vars = a.1;
        inline = (parted InlineNumber (flat_map vars_in (exprs_of (StmtKind-F.Assign to o from cond))) (flat_map left_vars to) g.inline).1;
        rights = d.1;
        conds = c.1;
      }

  one_kept : (x : Layer) (e : Expr) (vs : List Var) → used_by x ≡ flat_map vars_in (e ∷ []) ++ vs → IsGood q f x → E e
  one_kept x e vs is g =
      let a = parted (Kept (declared_in q f)) (flat_map vars_in (e ∷ [])) vs (subst (All (Kept (declared_in q f))) is g.kept) in
      All-head E e [] (flat_parts (Kept (declared_in q f)) vars_in (e ∷ []) a.0)

  test_of : (c : Expr) (a b : List Stmt) (at : Span) → IsGood q f (StmtKind-F.If c a b) → TestOf (record { cond = c; at = at })
  test_of c a b at g = record { kept = one_kept (StmtKind-F.If c a b) c [] refl g; typed = branch_type g.typed }
    where
      branch_type : well.WellTyped (among q.funs) (StmtKind-F.If c a b) → HasType (value c) place.truth
      branch_type (well.branch t) = t

  turn_of : (p : List Stmt) (c : Expr) (b : Option (List Stmt)) (at : Span) → IsGood q f (StmtKind-F.While p c b) → TestOf (record { cond = c; at = at })
  turn_of p c b at g = record { kept = one_kept (StmtKind-F.While p c b) c [] refl g; typed = loop_type g.typed }
    where
      loop_type : well.WellTyped (among q.funs) (StmtKind-F.While p c b) → HasType (value c) place.truth
      loop_type (well.loop t) = t

  counter_of : (i : Var) (from : Expr) (down : Bool) (to : Expr) (b : List Stmt) (at : Span) → IsGood q f (StmtKind-F.For i from down to b)
      → CounterOf (record { counter = i; from = from; down = down; to = to; at = at })
  counter_of i from down to b at g = by_type g.typed
    where
      by_type : well.WellTyped (among q.funs) (StmtKind-F.For i from down to b) → CounterOf (record { counter = i; from = from; down = down; to = to; at = at })
      by_type (well.rounds n x y) =
          let a = parted (Kept (declared_in q f)) (flat_map vars_in (from ∷ to ∷ [])) (i ∷ []) g.kept in
          let es = flat_parts (Kept (declared_in q f)) vars_in (from ∷ to ∷ []) a.0 in
          record { from = All-head E from (to ∷ []) es; to = All-head E to [] (All-tail E from (to ∷ []) es); from_typed = x; to_typed = y }

-- ---- trees
abbrev NoValue : Rhs → Type 0
NoValue (rhs.Value e) = ⊥
NoValue (rhs.Call n args at) = Unit {0}
NoValue (rhs.Intrinsic n args at) = Unit {0}

free_conditional : (to : List Lval) (o : Option BinOp) (r : Rhs) (c : Expr) → NoValue r → conditional to o r c ≡ shapes.Free
free_conditional [] o r c n = refl
free_conditional (d ∷ []) None (rhs.Value e) c n = absurd n
free_conditional (d ∷ []) None (rhs.Call m args at) c n = refl
free_conditional (d ∷ []) None (rhs.Intrinsic m args at) c n = refl
free_conditional (d ∷ []) (Some o) r c n = refl
free_conditional (d ∷ b ∷ ds) o r c n = refl

no_row : {s : rowed.Shape} → s ≡ shapes.Free → (answers : Answers) × Matches s → ⊥
no_row e m = no_free (subst Matches e m.1)

some_there : {A : Type 0} (o : Option A) → is_some o ≡ true → (x : A) × (o ≡ Some x)
some_there None e = absurd (false≢true e)
some_there (Some x) e = (x, refl)

module _ (q : Program) (f : Fun) where
  abbrev callees : Callees
  callees = callees_in q

  abbrev Said : Stmt → Type 0
  Said s = IsGood q f (layer_of s)

  -- before what holds parts
  abbrev Before : (Block → Block) → Type 0
  Before g = (r : Block) → HoldsParts q f r → HoldsParts q f (g r)

  abbrev kind_of : StmtKind → Span → Block → Block
  kind_of = fold-StmtKind _ _ (kind_tree callees) (λ s. s.kind s.span)

  abbrev StmtLaw : Stmt → Type 0
  StmtLaw s = All Said (statements_in s) → Before (statement_tree callees s)

  abbrev KindLaw : StmtKind → Type 0
  KindLaw k = All Said (in_kind k) → IsGood q f (out-StmtKind k) → (at : Span) → Before (kind_of k at)

  abbrev Parts : Type 0
  Parts = StmtKind-F ((k : StmtKind) × KindLaw k) ((s : Stmt) × StmtLaw s)

  abbrev bare : Parts → StmtKind-F StmtKind Stmt
  bare y = map-StmtKind _ _ _ _ (λ e. e.0) (λ e. e.0) y

  abbrev firsts : List ((s : Stmt) × StmtLaw s) → List Stmt
  firsts ss = map (λ e. e.0) ss

  abbrev mapped : Parts → StmtKind-F (Span → Block → Block) (Block → Block)
  mapped y = map-StmtKind _ _ (Span → Block → Block) (Block → Block) kind_of (statement_tree callees) (bare y)

  rows : (ss : List ((s : Stmt) × StmtLaw s)) → All Said (nested_statements (map pair (firsts ss))) → Before (in_order (map (statement_tree callees) (firsts ss)))
  rows [] h r b = b
  rows (s ∷ ss) h r b =
      let p = parted Said (statements_in s.0) (nested_statements (map pair (firsts ss))) h in
      s.1 p.0 (in_order (map (statement_tree callees) (firsts ss)) r) (rows ss p.1 r b)

  -- ---- assignments
  within : (n : List ℕ) (g : Fun) → function_named n q.funs ≡ Some g → Contains q.funs g
  within n g e = there_is (Contains q.funs) (function_named n q.funs) g e (found (Contains q.funs) (λ h. bytes_eq n h.name) q.funs (All-contains_itself q.funs))

  call_of : (to : List Lval) (n : List ℕ) (args : List Expr) (at : Span) (g : Fun) → function_named n q.funs ≡ Some g → IsGood q f (StmtKind-F.Assign to None (rhs.Call n args at) None)
      → CallOf q f (record { to = to; callee = g; args = args; at = at })
  call_of to n args at g e good = by_type good.typed
    where
      by_type : well.WellTyped (among q.funs) (StmtKind-F.Assign to None (rhs.Call n args at) None) → CallOf q f (record { to = to; callee = g; args = args; at = at })
      by_type (well.assigned h c) = record {
        of_program = within n g e;
        calls = subst (λ o. Calls o to args) e h;
        parts = assign_parts q f to None (rhs.Call n args at) args None refl good;
        lefts = good.declared.0;
        arrays = subst (λ o. ArgumentsDeclared (kinds_in q f) o args) e good.declared.1;
      }

  called : (to : List Lval) (n : List ℕ) (args : List Expr) (place at : Span) → IsGood q f (StmtKind-F.Assign to None (rhs.Call n args place) None) → Before (call_tree (callees n) to None args None place)
  called to n args place at good r b =
      let g = some_there (function_named n q.funs) (All-head (IsFunction q) (n, place) [] good.called) in
      subst (λ o. HoldsParts q f (call_tree o to None args None place r)) (sym (ap (with_own_tree q) g.1)) (call_of to n args place g.0 g.1 good, refl, b)

  assigned : (to : List Lval) (o : Option BinOp) (from : Rhs) (c : Option Expr) (at : Span) → IsGood q f (StmtKind-F.Assign to o from c) → Before (assign_tree callees to o from c at)
  assigned to o (rhs.Value e) c at good r b = (good, b)
  assigned to None (rhs.Call n args place) None at good r b = called to n args place at good r b
  assigned to None (rhs.Call n args place) (Some c) at good r b = absurd (no_row (free_conditional to None (rhs.Call n args place) c tt) (good.row refl))
  assigned to (Some o) (rhs.Call n args place) None at good r b = absurd (no_free (good.row refl).1)
  assigned to (Some o) (rhs.Call n args place) (Some c) at good r b = absurd (no_row (free_conditional to (Some o) (rhs.Call n args place) c tt) (good.row refl))
  assigned to None (rhs.Intrinsic n args place) None at good r b = (by_place good, b)
    where
      by_place : IsGood q f (StmtKind-F.Assign to None (rhs.Intrinsic n args place) None) → OperationOf q f (instruction to n args place)
      by_place g = g
  assigned to None (rhs.Intrinsic n args place) (Some c) at good r b = absurd (no_row (free_conditional to None (rhs.Intrinsic n args place) c tt) (good.row refl))
  assigned to (Some o) (rhs.Intrinsic n args place) None at good r b = absurd (no_free (good.row refl).1)
  assigned to (Some o) (rhs.Intrinsic n args place) (Some c) at good r b = absurd (no_row (free_conditional to (Some o) (rhs.Intrinsic n args place) c tt) (good.row refl))

  -- ---- layers
  layer_law : (y : Parts) → All Said (nested_step (pairs (bare y))) → IsGood q f (bare y) → (at : Span) → Before (kind_tree callees (mapped y) at)
  unfolding pairs
  layer_law (StmtKind-F.Assign to o from c) h d at r b = assigned to o from c at d r b
  layer_law (StmtKind-F.If c y z) h d at r b =
      let p = parted Said (nested_statements (map pair (firsts y))) (nested_statements (map pair (firsts z))) h in
      (test_of q f c (firsts y) (firsts z) at d, rows y p.0 done tt, rows z p.1 done tt, b)
  layer_law (StmtKind-F.While p c None) h d at r b = (turn_of q f (firsts p) c None at d, rows p h done tt, tt, b)
  layer_law (StmtKind-F.While p c (Some y)) h d at r b =
      let w = parted Said (nested_statements (map pair (firsts p))) (nested_statements (map pair (firsts y))) h in
      (turn_of q f (firsts p) c (Some (firsts y)) at d, rows p w.0 done tt, rows y w.1 done tt, b)
  layer_law (StmtKind-F.For i from down to y) h d at r b = (counter_of q f i from down to (firsts y) at d, rows y h done tt, b)
  layer_law (StmtKind-F.Mark xs) h d at r b = absurd d.unmarked

  kind_case : (y : Parts) → KindLaw (roll-StmtKind (bare y))
  kind_case y h d at =
      let z = bare y in
      subst (λ (g : Span → Block → Block). Before (g at)) (sym (fold-roll-StmtKind _ _ (kind_tree callees) (λ s. s.kind s.span) z))
      (layer_law y (subst (All Said) (opened z) h) (subst (IsGood q f) (out-roll-StmtKind z) d) at)

  stmt_case : (y : Stmt-F ((k : StmtKind) × KindLaw k) ((s : Stmt) × StmtLaw s)) → StmtLaw (roll-Stmt (map-Stmt _ _ StmtKind Stmt (λ e. e.0) (λ e. e.0) y))
  stmt_case y h =
      let z = map-Stmt _ _ StmtKind Stmt (λ e. e.0) (λ e. e.0) y in
      let k : All Said (roll-Stmt z ∷ in_kind z.kind) = subst (All Said) (in_stmt z) h in
      subst Before (sym (fold-roll-Stmt _ _ (kind_tree callees) (λ s. s.kind s.span) z))
      (y.kind.1 (All-tail Said (roll-Stmt z) (in_kind z.kind) k) (All-head Said (roll-Stmt z) (in_kind z.kind) k) y.span)

  statement_holds : (s : Stmt) → StmtLaw s
  statement_holds =
      ind-Stmt KindLaw StmtLaw
      (λ z y is. subst (λ z. KindLaw (roll-StmtKind z)) is (kind_case y))
      (λ z y is. subst (λ z. StmtLaw (roll-Stmt z)) is (stmt_case y))

  block_holds : (ss : List Stmt) → All Said (statements_of ss) → Before (block callees ss)
  block_holds [] h r b = b
  block_holds (s ∷ ss) h r b =
      let p = parted Said (statements_in s) (statements_of ss) h in
      statement_holds s p.0 (block callees ss r) (block_holds ss p.1 r b)

  body_holds : HasNoRecursion q → AreGood q f → HoldsParts q f (body_of q f)
  body_holds never good = subst (HoldsParts q f) (sym (whole_law q f never)) (block_holds f.body good done tt)

-- ---- where a run comes
module _ (q : Program) (never : HasNoRecursion q) (all : All (AreGood q) q.funs) where
  pub holds : (f : Fun) → Contains q.funs f → HoldsParts q f (body_of q f)
  holds f has = body_holds q f never (All-contains (AreGood q) q.funs f all has)

  arm : (f : Fun) (a b : Block) (z : Bool) → HoldsParts q f a → HoldsParts q f b → HoldsParts q f (if z then a else b)
  arm f a b true x y = x
  arm f a b false x y = y

  in_callee : (c : Call) (b : Block) → Contains q.funs c.callee → b ≡ body_of q c.callee → HoldsParts q c.callee b
  in_callee c b has is = subst (HoldsParts q c.callee) (sym is) (holds c.callee has)

  mutual
    pub part_of : {k j : Fun} {t : Block} {n : ℕ} {s u : State} {p : SourcePart} → Comes source callee_of k t n s j p u → HoldsParts q k t → PartOf q j p
    part_of reached.does a = a.0
    part_of (reached.past e c) a = part_of c a.1
    part_of (reached.past_quiet c) a = absurd a
    part_of reached.asks a = a.0
    part_of (reached.in_arm {k} {a = x} {b = y} {z = z} e c) a = part_of c (arm k x y z a.1 a.2)
    part_of (reached.past_arm e g c) a = part_of c a.3
    part_of (reached.in_turns c) a = turn_part c a.0 a.1 a.2
    part_of (reached.past_turns g c) a = part_of c a.3
    part_of reached.counts a = a.0
    part_of (reached.in_rounds e c) a = round_part c a.1
    part_of (reached.past_rounds e g c) a = part_of c a.2
    part_of reached.enters a = a.0
    part_of (reached.in_call {c = x} {b = b} e c) a = part_of c (in_callee x b a.0.of_program a.1)
    part_of (reached.leaves e g) a = a.0
    part_of (reached.past_call e g r c) a = part_of c a.2

    turn_part : {k j : Fun} {g : Block} {c : Condition} {b : Block} {n : ℕ} {s u : State} {p : SourcePart} → ComesInTurns source callee_of k g c b n s j p u → TestOf q k c → HoldsParts q k g → HoldsParts q k b → PartOf q j p
    turn_part (reached.in_prologue c) t a b = part_of c a
    turn_part (reached.asks_turn g) t a b = t
    turn_part (reached.in_body g e c) t a b = part_of c b
    turn_part (reached.next_turn g e r c) t a b = turn_part c t a b

    round_part : {k j : Fun} {f : Counter} {b : Block} {is : List ℤ} {n : ℕ} {s u : State} {p : SourcePart} → ComesInRounds source callee_of k f b is n s j p u → HoldsParts q k b → PartOf q j p
    round_part (reached.in_round c) a = part_of c a
    round_part (reached.next_round g c) a = round_part c a
