-- The tree of a function's body declares what its statements do, and each call in it is of a function
-- of the program.
use Rattle.std.proofs.Common.{◌≡◌, ℕ, zero, suc, List, [], ◌∷◌, Option, Some, None, Bool, true, false, cond, map, length, find, bytes_eq, refl, sym, ap, subst}
use Rattle.std.specs.Option.{unwrap_or}
use Rattle.std.specs.Prelude.{All, Contains}
use Rattle.std.proofs.lemmas.List.Elements.{All-head, All-tail, All-contains, All-contains_itself}
use Rattle.jz_tree.specs.Span.{Span}
use Rattle.jz_tree.specs.declared.expr.BinOp.{BinOp}
use Rattle.jz_tree.specs.declared.expr.Expr.{Expr}
use Rattle.jz_tree.specs.declared.stmt.Lval.{Lval}
use Rattle.jz_tree.specs.declared.stmt.Rhs.{Rhs}
use Rattle.jz_tree.specs.declared.stmt.Rhs.TheVariants as rhs
use Rattle.jz_tree.specs.declared.stmt.Stmt.{Stmt}
use Rattle.jz_tree.specs.declared.stmt.StmtKind.{StmtKind}
use Rattle.jz_tree.specs.declared.stmt.StmtKind.TheOpen.{StmtKind-F, Stmt-F}
use Rattle.jz_tree.specs.declared.stmt.StmtKind.TheViews.{out-StmtKind, out-roll-StmtKind, roll-Stmt, roll-StmtKind}
use Rattle.jz_tree.specs.declared.stmt.StmtKind.TheFolds.{fold-StmtKind, fold-roll-Stmt, fold-roll-StmtKind, ind-Stmt, map-Stmt, map-StmtKind}
use Rattle.jz_tree.specs.declared.program.Fun.{Fun}
use Rattle.jz_tree.specs.declared.program.Program.{Program}
use Rattle.jz_meaning.specs.Trees.{done}
use Rattle.jz_type_names.specs.Scopes.{function_named}
use Rattle.jz_type_names.specs.Parts.{layer_of, nested_statements, nested_step, statements_in, statements_of}
use Rattle.jz_type_names.proofs.NestedLaws.{in_kind, pair, pairs, opened, in_stmt}
use Rattle.jz_meaning.specs.Statements.{Block}
use Rattle.jz_meaning.specs.Runs.{Callee, Callees, in_order, call_tree, instruction_tree, assign_tree, kind_tree, statement_tree, block, with_tree, callees_of, body_of}
use Rattle.jz_run_laws.specs.Kinds.{Kinds}
use Rattle.jz_run_laws.specs.DeclaredKinds.{LeftDeclared, ParamDeclared}
use Rattle.jz_run_laws.specs.Texts.{ArgumentsDeclared, RightDeclared, StatementDeclared, FunctionDeclared, ProgramDeclared}
use Rattle.jz_run_laws.proofs.Parts.{IfThere, there_is}
use Rattle.jz_texts.proofs.Lists.{parted}
use Rattle.jz_typed_runs.specs.TypedTexts.{kinds_in}
use Rattle.jz_typed_runs.proofs.Reaching.{BodyOf}

-- ---- lists
found_by : {X : Type 0} (P : X → Type 0) (c : Bool) (x : X) (rest : Option X) → P x → IfThere P rest → IfThere P (cond c (Some x) rest)
found_by P true x rest h k = h
found_by P false x rest h k = k

found : {X : Type 0} (P : X → Type 0) (test : X → Bool) (xs : List X) → All P xs → IfThere P (find test xs)
found P test [] h = tt
found P test (x ∷ xs) h = found_by P (test x) x (find test xs) (All-head P x xs h) (found P test xs (All-tail P x xs h))

same_inside : {A : Type 0} (x y : A) → ◌≡◌ {A = Option A} (Some x) (Some y) → x ≡ y
same_inside x y e = ap (λ o. unwrap_or o x) e

-- ---- statements
module _ (q : Program) where
  abbrev fs : List Fun
  fs = q.funs

  -- a function that can be called is one of the program, and its body is declared
  record IsReady (n : List ℕ) (c : Callee) : Type 0 where
    pub named : function_named n fs ≡ Some c.of
    pub of_program : Contains fs c.of
    pub params : All (ParamDeclared (kinds_in q c.of)) c.of.params
    pub body : BodyOf q c.of c.body

  abbrev AreReady : Callees → Type 0
  AreReady callees = (n : List ℕ) (c : Callee) → callees n ≡ Some c → IsReady n c

  module _ (callees : Callees) (ready : AreReady callees) (f : Fun) where
    abbrev kinds : Kinds
    kinds = kinds_in q f

    abbrev Said : Stmt → Type 0
    Said s = StatementDeclared fs kinds (layer_of s)

    -- before what is declared
    abbrev Before : (Block → Block) → Type 0
    Before g = (r : Block) → BodyOf q f r → BodyOf q f (g r)

    abbrev kind_of : StmtKind → Span → Block → Block
    kind_of = fold-StmtKind _ _ (kind_tree callees) (λ s. s.kind s.span)

    abbrev StmtLaw : Stmt → Type 0
    StmtLaw s = All Said (statements_in s) → Before (statement_tree callees s)

    abbrev KindLaw : StmtKind → Type 0
    KindLaw k = All Said (in_kind k) → StatementDeclared fs kinds (out-StmtKind k) → (at : Span) → Before (kind_of k at)

    abbrev Proved : Type 0
    Proved = StmtKind-F ((k : StmtKind) × KindLaw k) ((s : Stmt) × StmtLaw s)

    abbrev bare : Proved → StmtKind-F StmtKind Stmt
    bare y = map-StmtKind _ _ _ _ (λ e. e.0) (λ e. e.0) y

    abbrev firsts : List ((s : Stmt) × StmtLaw s) → List Stmt
    firsts ss = map (λ e. e.0) ss

    abbrev mapped : Proved → StmtKind-F (Span → Block → Block) (Block → Block)
    mapped y = map-StmtKind _ _ (Span → Block → Block) (Block → Block) kind_of (statement_tree callees) (bare y)

    rows : (ss : List ((s : Stmt) × StmtLaw s)) → All Said (nested_statements (map pair (firsts ss))) → Before (in_order (map (statement_tree callees) (firsts ss)))
    rows [] h r b = b
    rows (s ∷ ss) h r b =
        let p = parted Said (statements_in s.0) (nested_statements (map pair (firsts ss))) h in
        s.1 p.0 (in_order (map (statement_tree callees) (firsts ss)) r) (rows ss p.1 r b)

    -- ---- assignments
    called : (n : List ℕ) (c : Option Callee) (to : List Lval) (o : Option BinOp) (args : List Expr) (cond : Option Expr) (at : Span) → callees n ≡ c → All (LeftDeclared kinds) to → ArgumentsDeclared kinds (function_named n fs) args
        → Before (call_tree c to o args cond at)
    called n (Some c) to None args None at e l h r b =
        let i = ready n c e in
        ((c.of, record { callee = refl; of_program = i.of_program; declared = record { lefts = l; params = i.params; arrays = subst (λ o. ArgumentsDeclared kinds o args) i.named h } }, i.body), b)
    called n (Some c) to None args (Some x) at e l h r b = (tt, b)
    called n (Some c) to (Some o) args cond at e l h r b = (tt, b)
    called n None to o args cond at e l h r b = (tt, b)

    instructed : (to : List Lval) (o : Option BinOp) (n : List ℕ) (args : List Expr) (cond : Option Expr) (at : Span) → All (LeftDeclared kinds) to → Before (instruction_tree to o n args cond at)
    instructed to None n args None at l r b = (l, b)
    instructed to None n args (Some c) at l r b = (tt, b)
    instructed to (Some o) n args cond at l r b = (tt, b)

    assigned : (to : List Lval) (o : Option BinOp) (from : Rhs) (cond : Option Expr) (at : Span) → All (LeftDeclared kinds) to → RightDeclared fs kinds from → Before (assign_tree callees to o from cond at)
    assigned to o (rhs.Value e) cond at l h r b = (l, b)
    assigned to o (rhs.Call n args place) cond at l h r b = called n (callees n) to o args cond place refl l h r b
    assigned to o (rhs.Intrinsic n args place) cond at l h r b = instructed to o n args cond place l r b

    -- ---- layers
    layer_law : (y : Proved) → All Said (nested_step (pairs (bare y))) → StatementDeclared fs kinds (bare y) → (at : Span) → Before (kind_tree callees (mapped y) at)
    unfolding pairs
    layer_law (StmtKind-F.Assign to o from c) h d at r b = assigned to o from c at d.0 d.1 r b
    layer_law (StmtKind-F.If c x y) h d at r b =
        let p = parted Said (nested_statements (map pair (firsts x))) (nested_statements (map pair (firsts y))) h in
        (rows x p.0 done tt, rows y p.1 done tt, b)
    layer_law (StmtKind-F.While p c None) h d at r b = (rows p h done tt, tt, b)
    layer_law (StmtKind-F.While p c (Some x)) h d at r b =
        let q = parted Said (nested_statements (map pair (firsts p))) (nested_statements (map pair (firsts x))) h in
        (rows p q.0 done tt, rows x q.1 done tt, b)
    layer_law (StmtKind-F.For i from down to x) h d at r b = (d, rows x h done tt, b)
    layer_law (StmtKind-F.Mark xs) h d at r b = (tt, b)

    kind_case : (y : Proved) → KindLaw (roll-StmtKind (bare y))
    kind_case y h d at =
        let x = bare y in
        subst (λ (g : Span → Block → Block). Before (g at)) (sym (fold-roll-StmtKind _ _ (kind_tree callees) (λ s. s.kind s.span) x))
        (layer_law y (subst (All Said) (opened x) h) (subst (StatementDeclared fs kinds) (out-roll-StmtKind x) d) at)

    stmt_case : (y : Stmt-F ((k : StmtKind) × KindLaw k) ((s : Stmt) × StmtLaw s)) → StmtLaw (roll-Stmt (map-Stmt _ _ StmtKind Stmt (λ e. e.0) (λ e. e.0) y))
    stmt_case y h =
        let x = map-Stmt _ _ StmtKind Stmt (λ e. e.0) (λ e. e.0) y in
        let k : All Said (roll-Stmt x ∷ in_kind x.kind) = subst (All Said) (in_stmt x) h in
        subst Before (sym (fold-roll-Stmt _ _ (kind_tree callees) (λ s. s.kind s.span) x))
        (y.kind.1 (All-tail Said (roll-Stmt x) (in_kind x.kind) k) (All-head Said (roll-Stmt x) (in_kind x.kind) k) y.span)

    statement_declared : (s : Stmt) → StmtLaw s
    statement_declared =
        ind-Stmt KindLaw StmtLaw
        (λ x y is. subst (λ z. KindLaw (roll-StmtKind z)) is (kind_case y))
        (λ x y is. subst (λ z. StmtLaw (roll-Stmt z)) is (stmt_case y))

    block_declared : (ss : List Stmt) → All Said (statements_of ss) → Before (block callees ss)
    block_declared [] h r b = b
    block_declared (s ∷ ss) h r b =
        let p = parted Said (statements_in s) (statements_of ss) h in
        statement_declared s p.0 (block callees ss r) (block_declared ss p.1 r b)

  -- ---- functions
  module _ (all : ProgramDeclared (kinds_in q) q) where
    record IsOne (g : Fun) : Type 0 where
      pub within : Contains fs g
      pub declared : FunctionDeclared fs (kinds_in q g) g

    ones : All IsOne fs
    ones = λ i d lt. record { within = All-contains_itself fs i d lt; declared = all i d lt }

    named : (n : List ℕ) (g : Fun) → function_named n fs ≡ Some g → IsOne g
    named n g e = there_is IsOne (function_named n fs) g e (found IsOne (λ g. bytes_eq n g.name) fs ones)

    ready_by : (callees : Callees) → AreReady callees → (n : List ℕ) (o : Option Fun) (c : Callee) → function_named n fs ≡ o → with_tree (λ ss. block callees ss done) o ≡ Some c → IsReady n c
    ready_by callees ready n None c p e = absurd cc
    ready_by callees ready n (Some g) c p e =
        let d = named n g p in
        subst (IsReady n) (same_inside (record { of = g; body = block callees g.body done }) c e)
        (record { named = p; of_program = d.within; params = d.declared.params; body = block_declared callees ready g g.body d.declared.statements done tt })

    callees_ready : (depth : ℕ) → AreReady (callees_of fs depth)
    callees_ready zero n c e = absurd cc
    callees_ready (suc depth) n c e = ready_by (callees_of fs depth) (callees_ready depth) n (function_named n fs) c refl e

    pub body_declared : (f : Fun) → Contains fs f → BodyOf q f (body_of q f)
    body_declared f has =
        let d = All-contains (λ g. FunctionDeclared fs (kinds_in q g) g) fs f all has in
        block_declared (callees_of fs (length fs)) (callees_ready (length fs)) f f.body d.statements done tt
