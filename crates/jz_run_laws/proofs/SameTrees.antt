-- The tree of a body is the same with two tables of callees that have the same for each name that it calls.
use Rattle.std.proofs.Common.{◌≡◌, ℕ, suc, Bool, true, false, List, [], ◌∷◌, ◌++◌, map, Option, Some, None, refl, sym, ap, ap₂, ◌∙◌, subst, arith}
use Rattle.std.specs.Prelude.{Contains}
use Rattle.std.proofs.lemmas.List.Elements.{Contains-append_left, Contains-append_right}
use Rattle.jz_tree.specs.Span.{Span}
use Rattle.jz_tree.specs.declared.expr.BinOp.{BinOp}
use Rattle.jz_tree.specs.declared.expr.Expr.{Expr}
use Rattle.jz_tree.specs.declared.expr.Var.{Var}
use Rattle.jz_tree.specs.declared.stmt.Lval.{Lval}
use Rattle.jz_tree.specs.declared.stmt.Rhs.{Rhs}
use Rattle.jz_tree.specs.declared.stmt.Rhs.TheVariants as rhs
use Rattle.jz_tree.specs.declared.stmt.Stmt.{Stmt}
use Rattle.jz_tree.specs.declared.stmt.StmtKind.{StmtKind}
use Rattle.jz_tree.specs.declared.stmt.StmtKind.TheVariants as kind
use Rattle.jz_tree.specs.declared.stmt.StmtKind.TheOpen.{StmtKind-F, Stmt-F}
use Rattle.jz_tree.specs.declared.stmt.StmtKind.TheViews.{out-StmtKind, out-roll-StmtKind, roll-Stmt, roll-StmtKind}
use Rattle.jz_tree.specs.declared.stmt.StmtKind.TheFolds.{fold-StmtKind, fold-roll-Stmt, fold-roll-StmtKind, para-StmtKind, para-roll-Stmt, para-roll-StmtKind, ind-Stmt, map-Stmt, map-StmtKind}
use Rattle.jz_meaning.specs.Trees.{done, choose, loop, each}
use Rattle.jz_type_names.specs.Scopes.{Name}
use Rattle.jz_type_names.specs.Parts.{Layer, layer_of, called_by, nested_statements, nested_step, statements_in, statements_of}
use Rattle.jz_meaning.specs.Statements.{Block}
use Rattle.jz_meaning.specs.Runs.{Callee, Callees, call_tree, assign_tree, kind_tree, statement_tree, block}

-- ---- the statements in a statement
in_kind : StmtKind → List Stmt
in_kind = para-StmtKind (List Stmt) (List Stmt) nested_step (λ s. roll-Stmt (record { notes = s.notes; span = s.span; kind = s.kind.0 }) ∷ s.kind.1)

pair : Stmt → Stmt × List Stmt
pair s = (s, statements_in s)

pairs : Layer → StmtKind-F (StmtKind × List Stmt) (Stmt × List Stmt)
pairs k = map-StmtKind _ _ _ _ (λ y. (y, in_kind y)) pair k

opened : (x : Layer) → in_kind (roll-StmtKind x) ≡ nested_step (pairs x)
unfolding in_kind pairs pair
opened x = para-roll-StmtKind (List Stmt) (List Stmt) nested_step (λ s. roll-Stmt (record { notes = s.notes; span = s.span; kind = s.kind.0 }) ∷ s.kind.1) x

in_stmt : (x : Stmt-F StmtKind Stmt) → statements_in (roll-Stmt x) ≡ roll-Stmt x ∷ in_kind x.kind
unfolding in_kind
in_stmt x = para-roll-Stmt (List Stmt) (List Stmt) nested_step (λ s. roll-Stmt (record { notes = s.notes; span = s.span; kind = s.kind.0 }) ∷ s.kind.1) x

first_of : {A : Type 0} (x : A) (xs : List A) → Contains (x ∷ xs) x
first_of x xs = (0, omega arith, refl)

later_of : {A : Type 0} (x y : A) (xs : List A) → Contains xs y → Contains (x ∷ xs) y
later_of x y xs c = (suc c.0, let lt = c.1 in omega (arith, lt), c.2)

-- ---- what becomes of a statement
abbrev kind_piece : Callees → StmtKind → Span → Block → Block
kind_piece callees = fold-StmtKind _ _ (kind_tree callees) (λ s. s.kind s.span)

abbrev before : (Block → Block) → (Block → Block) → Block → Block
before x y rest = x (y rest)

abbrev call_piece : List Lval → Option BinOp → List Expr → Option Expr → Span → Option Callee → Span → Block → Block
call_piece to o args c place x at rest = call_tree x to o args c place rest

abbrev if_piece : Expr → (Block → Block) → (Block → Block) → Span → Block → Block
if_piece c a b at rest = choose (record { cond = c; at = at }) (a done) (b done) rest

abbrev until_piece : Expr → (Block → Block) → Span → Block → Block
until_piece c p at rest = loop true (p done) (record { cond = c; at = at }) done rest

abbrev while_piece : Expr → (Block → Block) → (Block → Block) → Span → Block → Block
while_piece c p b at rest = loop false (p done) (record { cond = c; at = at }) (b done) rest

abbrev for_piece : Var → Expr → Bool → Expr → (Block → Block) → Span → Block → Block
for_piece i from down to b at rest = each (record { counter = i; from = from; down = down; to = to; at = at }) (b done) rest

module _ (f g : Callees) where
  abbrev AgreeAt : Layer → Type 0
  AgreeAt k = (n : Name) → Contains (called_by k) n → f n.0 ≡ g n.0

  -- both have the same for each name that these statements call
  abbrev pub Agree : List Stmt → Type 0
  Agree ss = (s : Stmt) → Contains ss s → AgreeAt (layer_of s)

  abbrev StmtLaw : Stmt → Type 0
  StmtLaw s = Agree (statements_in s) → statement_tree f s ≡ statement_tree g s

  abbrev KindLaw : StmtKind → Type 0
  KindLaw k = AgreeAt (out-StmtKind k) → Agree (in_kind k) → kind_piece f k ≡ kind_piece g k

  abbrev Kinds : Type 0
  Kinds = StmtKind-F ((k : StmtKind) × KindLaw k) ((s : Stmt) × StmtLaw s)

  abbrev bare : Kinds → Layer
  bare y = map-StmtKind _ _ StmtKind Stmt (λ e. e.0) (λ e. e.0) y

  abbrev firsts : List ((s : Stmt) × StmtLaw s) → List Stmt
  firsts ss = map (λ e. e.0) ss

  left_part : (xs ys : List Stmt) → Agree (xs ++ ys) → Agree xs
  left_part xs ys a = λ s c. a s (Contains-append_left xs ys s c)

  right_part : (xs ys : List Stmt) → Agree (xs ++ ys) → Agree ys
  right_part xs ys a = λ s c. a s (Contains-append_right xs ys s c)

  rows : (ss : List ((s : Stmt) × StmtLaw s)) → Agree (nested_statements (map pair (firsts ss))) → block f (firsts ss) ≡ block g (firsts ss)
  unfolding pair
  rows [] a = refl
  rows (s ∷ ss) a =
      let x = s.1 (left_part (statements_in s.0) (nested_statements (map pair (firsts ss))) a) in
      let y = rows ss (right_part (statements_in s.0) (nested_statements (map pair (firsts ss))) a) in
      ap₂ before x y

  assign_law : (to : List Lval) (o : Option BinOp) (r : Rhs) (c : Option Expr) → AgreeAt (StmtKind-F.Assign to o r c) → assign_tree f to o r c ≡ assign_tree g to o r c
  assign_law to o (rhs.Value e) c own = refl
  assign_law to o (rhs.Call n args at) c own = ap (call_piece to o args c at) (own (n, at) (first_of (n, at) []))
  assign_law to o (rhs.Intrinsic n args at) c own = refl

  layer_law : (y : Kinds) → AgreeAt (bare y) → Agree (nested_step (pairs (bare y)))
      → kind_tree f (map-StmtKind _ _ (Span → Block → Block) (Block → Block) (kind_piece f) (statement_tree f) (bare y))
      ≡ kind_tree g (map-StmtKind _ _ (Span → Block → Block) (Block → Block) (kind_piece g) (statement_tree g) (bare y))
  unfolding pairs
  layer_law (StmtKind-F.Assign to o r c) own inner = assign_law to o r c own
  layer_law (StmtKind-F.If c a b) own inner =
      let xs = nested_statements (map pair (firsts a)) in
      let ys = nested_statements (map pair (firsts b)) in
      ap₂ (if_piece c) (rows a (left_part xs ys inner)) (rows b (right_part xs ys inner))
  layer_law (StmtKind-F.While p c None) own inner = ap (until_piece c) (rows p inner)
  layer_law (StmtKind-F.While p c (Some b)) own inner =
      let xs = nested_statements (map pair (firsts p)) in
      let ys = nested_statements (map pair (firsts b)) in
      ap₂ (while_piece c) (rows p (left_part xs ys inner)) (rows b (right_part xs ys inner))
  layer_law (StmtKind-F.For i from down to b) own inner = ap (for_piece i from down to) (rows b inner)
  layer_law (StmtKind-F.Mark xs) own inner = refl

  kind_case : (y : Kinds) → KindLaw (roll-StmtKind (bare y))
  kind_case y own inner =
      fold-roll-StmtKind _ _ (kind_tree f) (λ s. s.kind s.span) (bare y)
      ∙ (layer_law y (subst (λ k. AgreeAt k) (out-roll-StmtKind (bare y)) own) (subst (λ ss. Agree ss) (opened (bare y)) inner)
      ∙ sym (fold-roll-StmtKind _ _ (kind_tree g) (λ s. s.kind s.span) (bare y)))

  stmt_case : (y : Stmt-F ((k : StmtKind) × KindLaw k) ((s : Stmt) × StmtLaw s)) → StmtLaw (roll-Stmt (map-Stmt _ _ StmtKind Stmt (λ e. e.0) (λ e. e.0) y))
  stmt_case y a =
      let x = map-Stmt _ _ StmtKind Stmt (λ e. e.0) (λ e. e.0) y in
      let whole : Agree (roll-Stmt x ∷ in_kind x.kind) = subst (λ ss. Agree ss) (in_stmt x) a in
      let own = whole (roll-Stmt x) (first_of (roll-Stmt x) (in_kind x.kind)) in
      let inner : Agree (in_kind x.kind) = λ t c. whole t (later_of (roll-Stmt x) t (in_kind x.kind) c) in
      fold-roll-Stmt _ _ (kind_tree f) (λ s. s.kind s.span) x
      ∙ (ap (λ (z : Span → Block → Block). z x.span) (y.kind.1 own inner)
      ∙ sym (fold-roll-Stmt _ _ (kind_tree g) (λ s. s.kind s.span) x))

  stmt_law : (s : Stmt) → StmtLaw s
  stmt_law =
      ind-Stmt KindLaw StmtLaw
      (λ x y is. subst (λ z. KindLaw (roll-StmtKind z)) is (kind_case y))
      (λ x y is. subst (λ z. StmtLaw (roll-Stmt z)) is (stmt_case y))

  pub same_block : (ss : List Stmt) → Agree (statements_of ss) → block f ss ≡ block g ss
  same_block [] a = refl
  same_block (s ∷ ss) a =
      let x = stmt_law s (left_part (statements_in s) (statements_of ss) a) in
      let y = same_block ss (right_part (statements_in s) (statements_of ss) a) in
      ap₂ before x y

-- ---- a statement that is a call
pub call_is : (callees : Callees) (s : Stmt) (to : List Lval) (n : List ℕ) (args : List Expr) (at : Span) (rest : Block)
    → s.kind ≡ kind.Assign to None (rhs.Call n args at) None → statement_tree callees s rest ≡ call_tree (callees n) to None args None at rest
call_is callees s to n args at rest e =
    let k : Layer = StmtKind-F.Assign to None (rhs.Call n args at) None in
    ap (λ (z : Block → Block). z rest) (fold-roll-Stmt _ _ (kind_tree callees) (λ s. s.kind s.span) (record { notes = s.notes; span = s.span; kind = s.kind }))
    ∙ (ap (λ x. kind_piece callees x s.span rest) (e ∙ sym (kind.rolls-Assign to None (rhs.Call n args at) None))
    ∙ ap (λ (z : Span → Block → Block). z s.span rest) (fold-roll-StmtKind _ _ (kind_tree callees) (λ s. s.kind s.span) k))
