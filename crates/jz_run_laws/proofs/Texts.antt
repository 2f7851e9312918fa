-- The trees of bodies declare what the statements of the text do.
use Rattle.std.proofs.Common.{◌≡◌, ℕ, zero, suc, List, [], ◌∷◌, ◌++◌, Option, Some, None, Bool, true, false, cond, map, length, All, find, bytes_eq, refl, sym, ap, subst}
use Rattle.std.proofs.lemmas.List.Elements.{All-nil, All-cons, All-head, All-tail, All-contains}
use Rattle.jz_tree.specs.Span.{Span}
use Rattle.jz_tree.specs.declared.expr.BinOp.{BinOp}
use Rattle.jz_tree.specs.declared.expr.Expr.{Expr}
use Rattle.jz_tree.specs.declared.stmt.Lval.{Lval}
use Rattle.jz_tree.specs.declared.stmt.Rhs.{Rhs}
use Rattle.jz_tree.specs.declared.stmt.Rhs.TheVariants as rhs
use Rattle.jz_tree.specs.declared.stmt.Stmt.{Stmt}
use Rattle.jz_tree.specs.declared.stmt.StmtKind.{StmtKind}
use Rattle.jz_tree.specs.declared.stmt.StmtKind.TheOpen.{StmtKind-F, Stmt-F}
use Rattle.jz_tree.specs.declared.stmt.StmtKind.TheViews.{out-StmtKind, out-roll-StmtKind, roll-Stmt, roll-StmtKind}
use Rattle.jz_tree.specs.declared.stmt.StmtKind.TheFolds.{fold-StmtKind, fold-roll-Stmt, fold-roll-StmtKind, para-StmtKind, para-roll-Stmt, para-roll-StmtKind, ind-Stmt, map-Stmt, map-StmtKind}
use Rattle.jz_tree.specs.declared.program.Fun.{Fun}
use Rattle.jz_meaning.specs.Trees.{done}
use Rattle.jz_type_names.specs.Scopes.{function_named}
use Rattle.jz_type_names.specs.Parts.{layer_of, nested_statements, nested_step, statements_in, statements_of}
use Rattle.jz_meaning.specs.Statements.{Block}
use Rattle.jz_meaning.specs.Runs.{Callee, Callees, in_order, call_tree, instruction_tree, assign_tree, kind_tree, statement_tree, block, with_tree, callees_of}
use Rattle.jz_run_laws.specs.Kinds.{Kinds}
use Rattle.jz_run_laws.specs.DeclaredKinds.{LeftDeclared, ParamDeclared, BodyDeclared}
use Rattle.jz_run_laws.specs.Texts.{ArgumentsDeclared, RightDeclared, StatementDeclared, FunctionDeclared, TextsDeclare}
use Rattle.jz_run_laws.proofs.Parts.{IfThere, there_is}

-- ---- lists

parted : {X : Type 0} (P : X → Type 0) (xs ys : List X) → All P (xs ++ ys) → All P xs × All P ys
parted P [] ys h = (All-nil P, h)
parted P (x ∷ xs) ys h =
    let t = parted P xs ys (All-tail P x (xs ++ ys) h) in
    (All-cons P x xs (All-head P x (xs ++ ys) h) t.0, t.1)

found_by : {X : Type 0} (P : X → Type 0) (c : Bool) (x : X) (rest : Option X) → P x → IfThere P rest → IfThere P (cond c (Some x) rest)
found_by P true x rest h k = h
found_by P false x rest h k = k

found : {X : Type 0} (P : X → Type 0) (test : X → Bool) (xs : List X) → All P xs → IfThere P (find test xs)
found P test [] h = tt
found P test (x ∷ xs) h = found_by P (test x) x (find test xs) (All-head P x xs h) (found P test xs (All-tail P x xs h))

or_else : {A : Type 0} → A → Option A → A
or_else d None = d
or_else d (Some x) = x

same_inside : {A : Type 0} (x y : A) → ◌≡◌ {A = Option A} (Some x) (Some y) → x ≡ y
unfolding or_else
same_inside x y e = ap (or_else x) e

-- ---- statements

in_kind : StmtKind → List Stmt
in_kind = para-StmtKind (List Stmt) (List Stmt) nested_step (λ s. roll-Stmt (record { notes = s.notes; span = s.span; kind = s.kind.0 }) ∷ s.kind.1)

pair : Stmt → Stmt × List Stmt
pair s = (s, statements_in s)

pairs : StmtKind-F StmtKind Stmt → StmtKind-F (StmtKind × List Stmt) (Stmt × List Stmt)
pairs k = map-StmtKind _ _ _ _ (λ y. (y, in_kind y)) pair k

opened : (x : StmtKind-F StmtKind Stmt) → in_kind (roll-StmtKind x) ≡ nested_step (pairs x)
unfolding in_kind pairs pair
opened x = para-roll-StmtKind (List Stmt) (List Stmt) nested_step (λ s. roll-Stmt (record { notes = s.notes; span = s.span; kind = s.kind.0 }) ∷ s.kind.1) x

in_stmt : (x : Stmt-F StmtKind Stmt) → statements_in (roll-Stmt x) ≡ roll-Stmt x ∷ in_kind x.kind
unfolding in_kind
in_stmt x = para-roll-Stmt (List Stmt) (List Stmt) nested_step (λ s. roll-Stmt (record { notes = s.notes; span = s.span; kind = s.kind.0 }) ∷ s.kind.1) x

-- a function that can be called is one of the program, and its body is declared
pub record IsReady (of : Fun → Kinds) (fs : List Fun) (n : List ℕ) (c : Callee) : Type 0 where
  pub named : function_named n fs ≡ Some c.of
  pub params : All (ParamDeclared (of c.of)) c.of.params
  pub body : BodyDeclared (of c.of) c.body

abbrev AreReady : (Fun → Kinds) → List Fun → Callees → Type 0
AreReady of fs callees = (n : List ℕ) (c : Callee) → callees n ≡ Some c → IsReady of fs n c

module _ (of : Fun → Kinds) (fs : List Fun) (callees : Callees) (ready : AreReady of fs callees) (kinds : Kinds) where
  abbrev Said : Stmt → Type 0
  Said s = StatementDeclared fs kinds (layer_of s)

  -- before what is declared
  abbrev Before : (Block → Block) → Type 0
  Before g = (r : Block) → BodyDeclared kinds r → BodyDeclared kinds (g r)

  abbrev kind_of : StmtKind → Span → Block → Block
  kind_of = fold-StmtKind _ _ (kind_tree callees) (λ s. s.kind s.span)

  abbrev StmtLaw : Stmt → Type 0
  StmtLaw s = All Said (statements_in s) → Before (statement_tree callees s)

  abbrev KindLaw : StmtKind → Type 0
  KindLaw k = All Said (in_kind k) → StatementDeclared fs kinds (out-StmtKind k) → (at : Span) → Before (kind_of k at)

  abbrev Parts : Type 0
  Parts = StmtKind-F ((k : StmtKind) × KindLaw k) ((s : Stmt) × StmtLaw s)

  abbrev bare : Parts → StmtKind-F StmtKind Stmt
  bare y = map-StmtKind _ _ _ _ (λ e. e.0) (λ e. e.0) y

  abbrev firsts : List ((s : Stmt) × StmtLaw s) → List Stmt
  firsts ss = map (λ e. e.0) ss

  abbrev mapped : Parts → StmtKind-F (Span → Block → Block) (Block → Block)
  mapped y = map-StmtKind _ _ (Span → Block → Block) (Block → Block) kind_of (statement_tree callees) (bare y)

  rows : (ss : List ((s : Stmt) × StmtLaw s)) → All Said (nested_statements (map pair (firsts ss))) → Before (in_order (map (statement_tree callees) (firsts ss)))
  unfolding pair
  rows [] h r b = b
  rows (s ∷ ss) h r b =
      let p = parted Said (statements_in s.0) (nested_statements (map pair (firsts ss))) h in
      s.1 p.0 (in_order (map (statement_tree callees) (firsts ss)) r) (rows ss p.1 r b)

  -- ---- assignments
  arguments : (n : List ℕ) (f : Callee) (args : List Expr) → IsReady of fs n f → ArgumentsDeclared kinds (function_named n fs) args → ArgumentsDeclared kinds (Some f.of) args
  arguments n f args i h = subst (λ o. ArgumentsDeclared kinds o args) i.named h

  called : (n : List ℕ) (f : Option Callee) (to : List Lval) (o : Option BinOp) (args : List Expr) (c : Option Expr) (at : Span) → callees n ≡ f → All (LeftDeclared kinds) to → ArgumentsDeclared kinds (function_named n fs) args → Before (call_tree f to o args c at)
  called n (Some f) to None args None at e l h r b =
      let i = ready n f e in
      ((of f.of, record { lefts = l; params = i.params; arrays = arguments n f args i h }, i.body), b)
  called n (Some f) to None args (Some c) at e l h r b = (tt, b)
  called n (Some f) to (Some o) args c at e l h r b = (tt, b)
  called n None to o args c at e l h r b = (tt, b)

  instructed : (to : List Lval) (o : Option BinOp) (n : List ℕ) (args : List Expr) (c : Option Expr) (at : Span) → All (LeftDeclared kinds) to → Before (instruction_tree to o n args c at)
  instructed to None n args None at l r b = (l, b)
  instructed to None n args (Some c) at l r b = (tt, b)
  instructed to (Some o) n args c at l r b = (tt, b)

  assigned : (to : List Lval) (o : Option BinOp) (from : Rhs) (c : Option Expr) (at : Span) → All (LeftDeclared kinds) to → RightDeclared fs kinds from → Before (assign_tree callees to o from c at)
  assigned to o (rhs.Value e) c at l h r b = (l, b)
  assigned to o (rhs.Call n args place) c at l h r b = called n (callees n) to o args c place refl l h r b
  assigned to o (rhs.Intrinsic n args place) c at l h r b = instructed to o n args c place l r b

  -- ---- layers
  layer_law : (y : Parts) → All Said (nested_step (pairs (bare y))) → StatementDeclared fs kinds (bare y) → (at : Span) → Before (kind_tree callees (mapped y) at)
  unfolding pairs
  layer_law (StmtKind-F.Assign to o from c) h d at r b = assigned to o from c at d.0 d.1 r b
  layer_law (StmtKind-F.If c x y) h d at r b =
      let p = parted Said (nested_statements (map pair (firsts x))) (nested_statements (map pair (firsts y))) h in
      (rows x p.0 done tt, rows y p.1 done tt, b)
  layer_law (StmtKind-F.While p c None) h d at r b = (rows p h done tt, tt, b)
  layer_law (StmtKind-F.While p c (Some x)) h d at r b =
      let q = parted Said (nested_statements (map pair (firsts p))) (nested_statements (map pair (firsts x))) h in
      (rows p q.0 done tt, rows x q.1 done tt, b)
  layer_law (StmtKind-F.For i from down to x) h d at r b = (d, rows x h done tt, b)
  layer_law (StmtKind-F.Mark xs) h d at r b = (tt, b)

  kind_case : (y : Parts) → KindLaw (roll-StmtKind (bare y))
  kind_case y h d at =
      let x = bare y in
      subst (λ (f : Span → Block → Block). Before (f at)) (sym (fold-roll-StmtKind _ _ (kind_tree callees) (λ s. s.kind s.span) x))
      (layer_law y (subst (All Said) (opened x) h) (subst (StatementDeclared fs kinds) (out-roll-StmtKind x) d) at)

  stmt_case : (y : Stmt-F ((k : StmtKind) × KindLaw k) ((s : Stmt) × StmtLaw s)) → StmtLaw (roll-Stmt (map-Stmt _ _ StmtKind Stmt (λ e. e.0) (λ e. e.0) y))
  stmt_case y h =
      let x = map-Stmt _ _ StmtKind Stmt (λ e. e.0) (λ e. e.0) y in
      let k : All Said (roll-Stmt x ∷ in_kind x.kind) = subst (All Said) (in_stmt x) h in
      subst Before (sym (fold-roll-Stmt _ _ (kind_tree callees) (λ s. s.kind s.span) x))
      (y.kind.1 (All-tail Said (roll-Stmt x) (in_kind x.kind) k) (All-head Said (roll-Stmt x) (in_kind x.kind) k) y.span)

  statement_declared : (s : Stmt) → StmtLaw s
  statement_declared =
      ind-Stmt KindLaw StmtLaw
      (λ x y is. subst (λ z. KindLaw (roll-StmtKind z)) is (kind_case y))
      (λ x y is. subst (λ z. StmtLaw (roll-Stmt z)) is (stmt_case y))

  pub block_declared : (ss : List Stmt) → All Said (statements_of ss) → Before (block callees ss)
  block_declared [] h r b = b
  block_declared (s ∷ ss) h r b =
      let p = parted Said (statements_in s) (statements_of ss) h in
      statement_declared s p.0 (block callees ss r) (block_declared ss p.1 r b)

-- ---- functions

module _ (of : Fun → Kinds) (fs : List Fun) (all : All (λ f. FunctionDeclared fs (of f) f) fs) where
  named : (n : List ℕ) (f : Fun) → function_named n fs ≡ Some f → FunctionDeclared fs (of f) f
  named n f e = there_is (λ g. FunctionDeclared fs (of g) g) (function_named n fs) f e (found (λ g. FunctionDeclared fs (of g) g) (λ g. bytes_eq n g.name) fs all)

  ready_by : (callees : Callees) → AreReady of fs callees → (n : List ℕ) (o : Option Fun) (c : Callee) → function_named n fs ≡ o → with_tree (λ ss. block callees ss done) o ≡ Some c → IsReady of fs n c
  ready_by callees ready n None c q e = absurd cc
  ready_by callees ready n (Some f) c q e =
      let d = named n f q in
      subst (IsReady of fs n) (same_inside (record { of = f; body = block callees f.body done }) c e)
      (record { named = q; params = d.params; body = block_declared of fs callees ready (of f) f.body d.statements done tt })

  pub callees_ready : (depth : ℕ) → AreReady of fs (callees_of fs depth)
  callees_ready zero n c e = absurd cc
  callees_ready (suc depth) n c e = ready_by (callees_of fs depth) (callees_ready depth) n (function_named n fs) c refl e

pub texts_declare : TextsDeclare
texts_declare of p f all has =
    let d = All-contains (λ g. FunctionDeclared p.funs (of g) g) p.funs f all has in
    block_declared of p.funs (callees_of p.funs (length p.funs)) (callees_ready of p.funs all (length p.funs)) (of f) f.body d.statements done tt
