-- The tree of a body is a body where its statements are what the parts of one have to be.
use Rattle.std.proofs.Common.{◌≡◌, ℕ, List, [], ◌∷◌, Option, Some, None, Bool, true, false, cond, map, All, find, refl, sym, ap, subst}
use Rattle.std.proofs.lemmas.List.Elements.{All-head, All-tail}
use Rattle.jz_tree.specs.Span.{Span}
use Rattle.jz_tree.specs.declared.expr.BinOp.{BinOp}
use Rattle.jz_tree.specs.declared.expr.Expr.{Expr}
use Rattle.jz_tree.specs.declared.stmt.Lval.{Lval}
use Rattle.jz_tree.specs.declared.stmt.Rhs.{Rhs}
use Rattle.jz_tree.specs.declared.stmt.Rhs.TheVariants as rhs
use Rattle.jz_tree.specs.declared.stmt.Stmt.{Stmt}
use Rattle.jz_tree.specs.declared.stmt.StmtKind.{StmtKind}
use Rattle.jz_tree.specs.declared.stmt.StmtKind.TheOpen.{StmtKind-F, Stmt-F}
use Rattle.jz_tree.specs.declared.stmt.StmtKind.TheViews.{out-StmtKind, out-roll-StmtKind, roll-Stmt, roll-StmtKind}
use Rattle.jz_tree.specs.declared.stmt.StmtKind.TheFolds.{fold-StmtKind, fold-roll-Stmt, fold-roll-StmtKind, ind-Stmt, map-Stmt, map-StmtKind}
use Rattle.jz_tree.specs.declared.program.Fun.{Fun}
use Rattle.jz_tree.specs.declared.program.Program.{Program}
use Rattle.jz_meaning.specs.Trees.{done, op, quiet, choose, loop, each, call}
use Rattle.jz_type_names.specs.Scopes.{function_named}
use Rattle.jz_type_names.specs.Parts.{Layer, layer_of, nested_statements, nested_step, statements_in, statements_of}
use Rattle.jz_type_names.proofs.NestedLaws.{in_kind, pair, pairs, opened, in_stmt}
use Rattle.jz_texts.proofs.Lists.{parted}
use Rattle.jz_meaning.specs.Statements.{Block}
use Rattle.jz_meaning.specs.Runs.{Callees, in_order, call_tree, assign_tree, kind_tree, statement_tree, block, body_of}
use Rattle.jz_run_laws.specs.Depths.{HasNoRecursion, with_own_tree, callees_in}
use Rattle.jz_run_laws.proofs.Uncut.{whole_law}
use Rattle.jz_run_laws.proofs.Parts.{IfThere}
use Rattle.jz_bodies.specs.Scopes.{Scope, Reads, ReadsIf, AllRead, AllWritten}
use Rattle.jz_bodies.specs.Calls.{IsCall}
use Rattle.jz_bodies.specs.Bodies.{IsOperation, IsTest, IsCounter, IsBody}

-- ---- one statement, without those that stand in it

-- there is neither an operation nor a condition, and this
abbrev pub IsBare : Option BinOp → Option Expr → Type 0 → Type 0
IsBare None None T = T
IsBare None (Some c) T = ⊥
IsBare (Some o) c T = ⊥

-- P: what is known of each function
module _ (q : Program) (scopes : Fun → Scope) (P : Fun → Type 0) (x : Scope) where
  -- a call of one of the functions
  pub record IsCallOf (to : List Lval) (n : List ℕ) (args : List Expr) (at : Span) : Type 0 where
    pub callee : Fun
    pub named : function_named n q.funs ≡ Some callee
    pub known : P callee
    pub is : IsCall x (scopes callee) (record { to = to; callee = callee; args = args; at = at })

  abbrev pub IsRight : List Lval → Option BinOp → Rhs → Option Expr → Type 0
  IsRight to o (rhs.Value e) c = AllWritten x to × Reads x e × ReadsIf x c
  IsRight to o (rhs.Call n args at) c = IsBare o c (IsCallOf to n args at)
  IsRight to o (rhs.Intrinsic n args at) c = IsBare o c (AllWritten x to × AllRead x args)

  abbrev pub IsStatement : Layer → Type 0
  IsStatement (StmtKind-F.Assign to o r c) = IsRight to o r c
  IsStatement (StmtKind-F.If c a b) = Reads x c
  IsStatement (StmtKind-F.While p c b) = Reads x c
  IsStatement (StmtKind-F.For i from down to b) = (at : Span) → IsCounter x (record { counter = i; from = from; down = down; to = to; at = at })
  IsStatement (StmtKind-F.Mark vs) = ⊥

  -- a body of which each call holds the body of a function of which P is known
  abbrev pub HoldsBodies : Block → Type 0
  HoldsBodies done = Unit {0}
  HoldsBodies (op o r) = IsOperation x o × HoldsBodies r
  HoldsBodies (quiet o r) = ⊥
  HoldsBodies (choose t a b r) = IsTest x t × HoldsBodies a × HoldsBodies b × HoldsBodies r
  HoldsBodies (loop w p t b r) = IsTest x t × HoldsBodies p × HoldsBodies b × HoldsBodies r
  HoldsBodies (each f b r) = IsCounter x f × HoldsBodies b × HoldsBodies r
  HoldsBodies (call c b r) = IsCall x (scopes c.callee) c × P c.callee × (b ≡ body_of q c.callee) × HoldsBodies r

-- ---- lists

found_by : {X : Type 0} (P : X → Type 0) (c : Bool) (x : X) (rest : Option X) → P x → IfThere P rest → IfThere P (cond c (Some x) rest)
found_by P true x rest h k = h
found_by P false x rest h k = k

pub found : {X : Type 0} (P : X → Type 0) (test : X → Bool) (xs : List X) → All P xs → IfThere P (find test xs)
found P test [] h = tt
found P test (x ∷ xs) h = found_by P (test x) x (find test xs) (All-head P x xs h) (found P test xs (All-tail P x xs h))

-- ---- statements

module _ (q : Program) (scopes : Fun → Scope) (P : Fun → Type 0) (x : Scope) where
  abbrev callees : Callees
  callees = callees_in q

  abbrev Said : Stmt → Type 0
  Said s = IsStatement q scopes P x (layer_of s)

  -- before what is a body
  abbrev Before : (Block → Block) → Type 0
  Before g = (r : Block) → HoldsBodies q scopes P x r → HoldsBodies q scopes P x (g r)

  abbrev kind_of : StmtKind → Span → Block → Block
  kind_of = fold-StmtKind _ _ (kind_tree callees) (λ s. s.kind s.span)

  abbrev StmtLaw : Stmt → Type 0
  StmtLaw s = All Said (statements_in s) → Before (statement_tree callees s)

  abbrev KindLaw : StmtKind → Type 0
  KindLaw k = All Said (in_kind k) → IsStatement q scopes P x (out-StmtKind k) → (at : Span) → Before (kind_of k at)

  abbrev Parts : Type 0
  Parts = StmtKind-F ((k : StmtKind) × KindLaw k) ((s : Stmt) × StmtLaw s)

  abbrev bare : Parts → StmtKind-F StmtKind Stmt
  bare y = map-StmtKind _ _ _ _ (λ e. e.0) (λ e. e.0) y

  abbrev firsts : List ((s : Stmt) × StmtLaw s) → List Stmt
  firsts ss = map (λ e. e.0) ss

  abbrev mapped : Parts → StmtKind-F (Span → Block → Block) (Block → Block)
  mapped y = map-StmtKind _ _ (Span → Block → Block) (Block → Block) kind_of (statement_tree callees) (bare y)

  rows : (ss : List ((s : Stmt) × StmtLaw s)) → All Said (nested_statements (map pair (firsts ss))) → Before (in_order (map (statement_tree callees) (firsts ss)))
  rows [] h r b = b
  rows (s ∷ ss) h r b =
      let p = parted Said (statements_in s.0) (nested_statements (map pair (firsts ss))) h in
      s.1 p.0 (in_order (map (statement_tree callees) (firsts ss)) r) (rows ss p.1 r b)

  -- ---- assignments
  called : (to : List Lval) (n : List ℕ) (args : List Expr) (place at : Span) → IsCallOf q scopes P x to n args place → Before (call_tree (callees n) to None args None place)
  called to n args place at h r b =
      subst (λ o. HoldsBodies q scopes P x (call_tree o to None args None place r)) (sym (ap (with_own_tree q) h.named)) (h.is, h.known, refl, b)

  assigned : (to : List Lval) (o : Option BinOp) (from : Rhs) (c : Option Expr) (at : Span) → IsRight q scopes P x to o from c → Before (assign_tree callees to o from c at)
  assigned to o (rhs.Value e) c at h r b = (h, b)
  assigned to None (rhs.Call n args place) None at h r b = called to n args place at h r b
  assigned to None (rhs.Call n args place) (Some c) at h r b = absurd h
  assigned to (Some o) (rhs.Call n args place) c at h r b = absurd h
  assigned to None (rhs.Intrinsic n args place) None at h r b = (h, b)
  assigned to None (rhs.Intrinsic n args place) (Some c) at h r b = absurd h
  assigned to (Some o) (rhs.Intrinsic n args place) c at h r b = absurd h

  -- ---- layers
  layer_law : (y : Parts) → All Said (nested_step (pairs (bare y))) → IsStatement q scopes P x (bare y) → (at : Span) → Before (kind_tree callees (mapped y) at)
  unfolding pairs
  layer_law (StmtKind-F.Assign to o from c) h d at r b = assigned to o from c at d r b
  layer_law (StmtKind-F.If c y z) h d at r b =
      let p = parted Said (nested_statements (map pair (firsts y))) (nested_statements (map pair (firsts z))) h in
      (d, rows y p.0 done tt, rows z p.1 done tt, b)
  layer_law (StmtKind-F.While p c None) h d at r b = (d, rows p h done tt, tt, b)
  layer_law (StmtKind-F.While p c (Some y)) h d at r b =
      let q = parted Said (nested_statements (map pair (firsts p))) (nested_statements (map pair (firsts y))) h in
      (d, rows p q.0 done tt, rows y q.1 done tt, b)
  layer_law (StmtKind-F.For i from down to y) h d at r b = (d at, rows y h done tt, b)
  layer_law (StmtKind-F.Mark xs) h d at r b = absurd d

  kind_case : (y : Parts) → KindLaw (roll-StmtKind (bare y))
  kind_case y h d at =
      let z = bare y in
      subst (λ (f : Span → Block → Block). Before (f at)) (sym (fold-roll-StmtKind _ _ (kind_tree callees) (λ s. s.kind s.span) z))
      (layer_law y (subst (All Said) (opened z) h) (subst (IsStatement q scopes P x) (out-roll-StmtKind z) d) at)

  stmt_case : (y : Stmt-F ((k : StmtKind) × KindLaw k) ((s : Stmt) × StmtLaw s)) → StmtLaw (roll-Stmt (map-Stmt _ _ StmtKind Stmt (λ e. e.0) (λ e. e.0) y))
  stmt_case y h =
      let z = map-Stmt _ _ StmtKind Stmt (λ e. e.0) (λ e. e.0) y in
      let k : All Said (roll-Stmt z ∷ in_kind z.kind) = subst (All Said) (in_stmt z) h in
      subst Before (sym (fold-roll-Stmt _ _ (kind_tree callees) (λ s. s.kind s.span) z))
      (y.kind.1 (All-tail Said (roll-Stmt z) (in_kind z.kind) k) (All-head Said (roll-Stmt z) (in_kind z.kind) k) y.span)

  statement_is : (s : Stmt) → StmtLaw s
  statement_is =
      ind-Stmt KindLaw StmtLaw
      (λ z y is. subst (λ z. KindLaw (roll-StmtKind z)) is (kind_case y))
      (λ z y is. subst (λ z. StmtLaw (roll-Stmt z)) is (stmt_case y))

  pub block_is : (ss : List Stmt) → All Said (statements_of ss) → Before (block callees ss)
  block_is [] h r b = b
  block_is (s ∷ ss) h r b =
      let p = parted Said (statements_in s) (statements_of ss) h in
      statement_is s p.0 (block callees ss r) (block_is ss p.1 r b)

-- ---- functions

-- the statements of a function
abbrev pub StatementsAre : Program → (Fun → Scope) → (Fun → Type 0) → Fun → Type 0
StatementsAre q scopes P f = All (λ s. IsStatement q scopes P (scopes f) (layer_of s)) (statements_of f.body)

module _ (q : Program) (scopes : Fun → Scope) (P : Fun → Type 0) (never : HasNoRecursion q) (statements : (f : Fun) → P f → StatementsAre q scopes P f) where
  body_holds : (f : Fun) → P f → HoldsBodies q scopes P (scopes f) (body_of q f)
  body_holds f k = subst (HoldsBodies q scopes P (scopes f)) (sym (whole_law q f never)) (block_is q scopes P (scopes f) f.body (statements f k) done tt)

  -- down the tree, into the bodies that it holds
  each_body : (t : Block) (x : Scope) → HoldsBodies q scopes P x t → IsBody scopes x t
  each_body done x h = tt
  each_body (op o r) x h = (h.0, each_body r x h.1)
  each_body (quiet o r) x h = absurd h
  each_body (choose t a b r) x h = (h.0, each_body a x h.1, each_body b x h.2, each_body r x h.3)
  each_body (loop w p t b r) x h = (h.0, each_body p x h.1, each_body b x h.2, each_body r x h.3)
  each_body (each f b r) x h = (h.0, each_body b x h.1, each_body r x h.2)
  each_body (call c b r) x h =
      (h.0, each_body b (scopes c.callee) (subst (HoldsBodies q scopes P (scopes c.callee)) (sym h.2) (body_holds c.callee h.1)), each_body r x h.3)

  pub body_is : (f : Fun) → P f → IsBody scopes (scopes f) (body_of q f)
  body_is f k = each_body (body_of q f) (scopes f) (body_holds f k)
