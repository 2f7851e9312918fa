-- The functions that are copied in a body are those that its calls name, in the order of the text,
-- each before those that it calls.
use Rattle.std.proofs.Common.{◌≡◌, ℕ, zero, suc, List, [], ◌∷◌, ◌++◌, map, length, Option, Some, None, refl, sym, ap, ap₂, ◌∙◌, subst, arith, append_assoc, append-nil, length-append}
use Rattle.std.specs.Prelude.{option_map, option_to_list}
use Rattle.jz_tree.specs.Span.{Span}
use Rattle.jz_tree.specs.declared.expr.BinOp.{BinOp}
use Rattle.jz_tree.specs.declared.expr.Expr.{Expr}
use Rattle.jz_tree.specs.declared.program.Fun.{Fun}
use Rattle.jz_tree.specs.declared.stmt.Lval.{Lval}
use Rattle.jz_tree.specs.declared.stmt.Rhs.{Rhs}
use Rattle.jz_tree.specs.declared.stmt.Rhs.TheVariants as rhs
use Rattle.jz_tree.specs.declared.stmt.Stmt.{Stmt}
use Rattle.jz_tree.specs.declared.stmt.StmtKind.{StmtKind}
use Rattle.jz_tree.specs.declared.stmt.StmtKind.TheOpen.{StmtKind-F, Stmt-F}
use Rattle.jz_tree.specs.declared.stmt.StmtKind.TheViews.{out-StmtKind, out-roll-StmtKind, roll-Stmt, roll-StmtKind}
use Rattle.jz_tree.specs.declared.stmt.StmtKind.TheFolds.{fold-StmtKind, fold-roll-Stmt, fold-roll-StmtKind, ind-Stmt, map-Stmt, map-StmtKind}
use Rattle.jz_type_names.specs.Scopes.{function_named}
use Rattle.jz_type_names.specs.Parts.{Layer, layer_of, nested_statements, nested_step, statements_in, statements_of}
use Rattle.jz_type_names.proofs.NestedLaws.{in_kind, pair, pairs, opened, in_stmt}
use Rattle.jz_runs.specs.Trees.{done}
use Rattle.jz_meaning.specs.Statements.{Block}
use Rattle.jz_meaning.specs.Runs as runs
use Rattle.jz_meaning.specs.Runs.{Callee, Callees, in_order, call_tree, instruction_tree, body_tree, kind_tree, statement_tree, block, with_tree}
use Rattle.jz_inlining.specs.Frames.{Called, right_called, layer_called, calls_in, copies_in}
use Rattle.jz_inlining.specs.InnerFrames.{calls_from, all_copies}
use Rattle.jz_inlining.proofs.Needed.{copies_needed}
use Rattle.jz_ready.specs.CopiedKinds.{callees_of}

-- ---- by calls

abbrev pub funs_with : (Fun → List Fun) → List Called → List Fun
funs_with inside [] = []
funs_with inside (c ∷ cs) = c.of ∷ (inside c.of ++ funs_with inside cs)

-- where calls may be so deep
abbrev pub funs_in : List Fun → ℕ → Fun → List Fun
funs_in fs zero f = []
funs_in fs (suc depth) f = funs_with (funs_in fs depth) (calls_in fs (suc depth) f.body)

-- ---- by statements

call_funs : Option Callee → Option BinOp → Option Expr → List Fun
call_funs (Some f) None None = f.of ∷ callees_of f.body
call_funs _ o c = []

right_funs : Callees → Option BinOp → Rhs → Option Expr → List Fun
right_funs callees o (rhs.Call n args at) c = call_funs (callees n) o c
right_funs callees o _ c = []

own_funs : Callees → Layer → List Fun
own_funs callees (StmtKind-F.Assign to o r c) = right_funs callees o r c
own_funs callees _ = []

total : Callees → List Stmt → List Fun
total callees [] = []
total callees (s ∷ ss) = own_funs callees (layer_of s) ++ total callees ss

module _ (callees : Callees) where
  total_both : (ss ts : List Stmt) → total callees (ss ++ ts) ≡ total callees ss ++ total callees ts
  unfolding total
  total_both [] ts = refl
  total_both (s ∷ ss) ts = ap (λ l. own_funs callees (layer_of s) ++ l) (total_both ss ts) ∙ sym (append_assoc (own_funs callees (layer_of s)) (total callees ss) (total callees ts))

  kind_f : StmtKind → Span → Block → Block
  kind_f = fold-StmtKind _ _ (kind_tree callees) (λ s. s.kind s.span)

  -- before what follows
  abbrev Adds : (Block → Block) → List Fun → Type 0
  Adds f fs = (r : Block) → callees_of (f r) ≡ fs ++ callees_of r

  abbrev StmtLaw : Stmt → Type 0
  StmtLaw s = Adds (statement_tree callees s) (total callees (statements_in s))

  abbrev KindLaw : StmtKind → Type 0
  KindLaw k = (at : Span) → Adds (kind_f k at) (own_funs callees (out-StmtKind k) ++ total callees (in_kind k))

  abbrev Kinds : Type 0
  Kinds = StmtKind-F ((k : StmtKind) × KindLaw k) ((s : Stmt) × StmtLaw s)

  abbrev bare : Kinds → StmtKind-F StmtKind Stmt
  bare y = map-StmtKind _ _ _ _ (λ e. e.0) (λ e. e.0) y

  abbrev firsts : List ((s : Stmt) × StmtLaw s) → List Stmt
  firsts ss = map (λ e. e.0) ss

  abbrev trees : List ((s : Stmt) × StmtLaw s) → List (Block → Block)
  trees ss = map (statement_tree callees) (firsts ss)

  abbrev inside : List ((s : Stmt) × StmtLaw s) → List Fun
  inside ss = total callees (nested_statements (map pair (firsts ss)))

  rows : (ss : List ((s : Stmt) × StmtLaw s)) → Adds (in_order (trees ss)) (inside ss)
  unfolding total
  rows [] r = refl
  rows (s ∷ ss) r =
      s.1 (in_order (trees ss) r) ∙ ap (λ l. total callees (statements_in s.0) ++ l) (rows ss r)
      ∙ sym (append_assoc (total callees (statements_in s.0)) (inside ss) (callees_of r))
      ∙ ap (λ l. l ++ callees_of r) (sym (total_both (statements_in s.0) (nested_statements (map pair (firsts ss)))))

  alone : (ss : List ((s : Stmt) × StmtLaw s)) → callees_of (in_order (trees ss) done) ≡ inside ss
  alone ss = rows ss done ∙ append-nil (inside ss)

  both : (as' bs : List ((s : Stmt) × StmtLaw s)) (r : Block)
      → callees_of (in_order (trees as') done) ++ (callees_of (in_order (trees bs) done) ++ callees_of r)
      ≡ total callees (nested_statements (map pair (firsts as')) ++ nested_statements (map pair (firsts bs))) ++ callees_of r
  both as' bs r =
      ap (λ l. l ++ (callees_of (in_order (trees bs) done) ++ callees_of r)) (alone as')
      ∙ ap (λ l. inside as' ++ (l ++ callees_of r)) (alone bs)
      ∙ sym (append_assoc (inside as') (inside bs) (callees_of r))
      ∙ ap (λ l. l ++ callees_of r) (sym (total_both (nested_statements (map pair (firsts as'))) (nested_statements (map pair (firsts bs)))))

  one : (bs : List ((s : Stmt) × StmtLaw s)) (r : Block) → callees_of (in_order (trees bs) done) ++ callees_of r ≡ inside bs ++ callees_of r
  one bs r = ap (λ l. l ++ callees_of r) (alone bs)

  call_law : (x : Option Callee) (to : List Lval) (o : Option BinOp) (args : List Expr) (c : Option Expr) (place : Span) (r : Block)
      → callees_of (call_tree x to o args c place r) ≡ (call_funs x o c ++ []) ++ callees_of r
  unfolding call_funs
  call_law (Some f) to None args None place r = ap (λ l. f.of ∷ (l ++ callees_of r)) (sym (append-nil (callees_of f.body)))
  call_law (Some f) to None args (Some c) place r = refl
  call_law (Some f) to (Some o) args c place r = refl
  call_law None to o args c place r = refl

  instruction_law : (to : List Lval) (o : Option BinOp) (n : List ℕ) (args : List Expr) (c : Option Expr) (at : Span) (r : Block) → callees_of (instruction_tree to o n args c at r) ≡ callees_of r
  instruction_law to None n args None at r = refl
  instruction_law to None n args (Some c) at r = refl
  instruction_law to (Some o) n args c at r = refl

  abbrev mapped : Kinds → StmtKind-F (Span → Block → Block) (Block → Block)
  mapped y = map-StmtKind _ _ (Span → Block → Block) (Block → Block) kind_f (statement_tree callees) (bare y)

  layer_law : (y : Kinds) (at : Span) → Adds (kind_tree callees (mapped y) at) (own_funs callees (bare y) ++ total callees (nested_step (pairs (bare y))))
  unfolding pairs own_funs right_funs total
  layer_law (StmtKind-F.Assign to o (rhs.Value e) c) at r = refl
  layer_law (StmtKind-F.Assign to o (rhs.Call n args place) c) at r = call_law (callees n) to o args c place r
  layer_law (StmtKind-F.Assign to o (rhs.Intrinsic n args place) c) at r = instruction_law to o n args c place r
  layer_law (StmtKind-F.If c a b) at r = both a b r
  layer_law (StmtKind-F.While p c None) at r = one p r
  layer_law (StmtKind-F.While p c (Some b)) at r = both p b r
  layer_law (StmtKind-F.For i from down to b) at r = one b r
  layer_law (StmtKind-F.Mark vs) at r = refl

  kind_case : (y : Kinds) → KindLaw (roll-StmtKind (bare y))
  unfolding kind_f
  kind_case y at r =
      ap (λ f. callees_of (f at r)) (fold-roll-StmtKind _ _ (kind_tree callees) (λ s. s.kind s.span) (bare y))
      ∙ layer_law y at r
      ∙ ap₂ (λ k ss. (own_funs callees k ++ total callees ss) ++ callees_of r) (sym (out-roll-StmtKind (bare y))) (sym (opened (bare y)))

  stmt_case : (y : Stmt-F ((k : StmtKind) × KindLaw k) ((s : Stmt) × StmtLaw s)) → StmtLaw (roll-Stmt (map-Stmt _ _ StmtKind Stmt (λ e. e.0) (λ e. e.0) y))
  unfolding kind_f total
  stmt_case y r =
      let x = map-Stmt _ _ StmtKind Stmt (λ e. e.0) (λ e. e.0) y in
      ap (λ f. callees_of (f r)) (fold-roll-Stmt _ _ (kind_tree callees) (λ s. s.kind s.span) x)
      ∙ y.kind.1 y.span r ∙ ap (λ ss. total callees ss ++ callees_of r) (sym (in_stmt x))

  stmt_funs : (s : Stmt) → StmtLaw s
  stmt_funs =
      ind-Stmt KindLaw StmtLaw
      (λ x y is. subst (λ z. KindLaw (roll-StmtKind z)) is (kind_case y))
      (λ x y is. subst (λ z. StmtLaw (roll-Stmt z)) is (stmt_case y))

  body_funs : (ss : List Stmt) → Adds (block callees ss) (total callees (statements_of ss))
  unfolding total
  body_funs [] r = refl
  body_funs (s ∷ ss) r =
      stmt_funs s (block callees ss r) ∙ ap (λ l. total callees (statements_in s) ++ l) (body_funs ss r)
      ∙ sym (append_assoc (total callees (statements_in s)) (total callees (statements_of ss)) (callees_of r))
      ∙ ap (λ l. l ++ callees_of r) (sym (total_both (statements_in s) (statements_of ss)))

-- ---- of calls

funs_both : (inside : Fun → List Fun) (cs ds : List Called) → funs_with inside (cs ++ ds) ≡ funs_with inside cs ++ funs_with inside ds
funs_both inside [] ds = refl
funs_both inside (c ∷ cs) ds = ap (λ l. c.of ∷ (inside c.of ++ l)) (funs_both inside cs ds) ∙ ap (λ l. c.of ∷ l) (sym (append_assoc (inside c.of) (funs_with inside cs) (funs_with inside ds)))

call_list : List Expr → Span → Option Fun → List Called
call_list args at y = option_to_list (option_map (λ f. record { at = at; of = f; args = args }) y)

module _ (fs : List Fun) where
  abbrev Tree : ℕ → Fun → Block
  Tree depth f = block (runs.callees_of fs depth) f.body done

  abbrev Known : ℕ → Type 0
  Known depth = (f : Fun) → callees_of (Tree depth f) ≡ funs_in fs depth f

  named_funs : (depth : ℕ) → Known depth → (args : List Expr) (at : Span) (y : Option Fun)
      → call_funs (with_tree (λ ss. block (runs.callees_of fs depth) ss done) y) None None ≡ funs_with (funs_in fs depth) (call_list args at y)
  unfolding call_funs call_list
  named_funs depth known args at None = refl
  named_funs depth known args at (Some f) = ap (λ l. f ∷ l) (known f ∙ sym (append-nil (funs_in fs depth f)))

  with_operation : (x : Option Callee) (o : BinOp) (c : Option Expr) → call_funs x (Some o) c ≡ []
  unfolding call_funs
  with_operation (Some f) o c = refl
  with_operation None o c = refl

  with_condition : (x : Option Callee) (e : Expr) → call_funs x None (Some e) ≡ []
  unfolding call_funs
  with_condition (Some f) e = refl
  with_condition None e = refl

  right_is : (depth : ℕ) → Known depth → (o : Option BinOp) (r : Rhs) (c : Option Expr) → right_funs (runs.callees_of fs (suc depth)) o r c ≡ funs_with (funs_in fs depth) (right_called fs (suc depth) o r c)
  unfolding right_funs call_funs call_list
  right_is depth known o (rhs.Value e) c = refl
  right_is depth known o (rhs.Intrinsic n args at) c = refl
  right_is depth known (Some o) (rhs.Call n args at) c = with_operation (runs.callees_of fs (suc depth) n) o c
  right_is depth known None (rhs.Call n args at) (Some e) = with_condition (runs.callees_of fs (suc depth) n) e
  right_is depth known None (rhs.Call n args at) None = named_funs depth known args at (function_named n fs)

  layer_is : (depth : ℕ) → Known depth → (k : Layer) → own_funs (runs.callees_of fs (suc depth)) k ≡ funs_with (funs_in fs depth) (layer_called fs (suc depth) k)
  unfolding own_funs
  layer_is depth known (StmtKind-F.Assign to o r c) = right_is depth known o r c
  layer_is depth known (StmtKind-F.If c a b) = refl
  layer_is depth known (StmtKind-F.While p c b) = refl
  layer_is depth known (StmtKind-F.For i from down to b) = refl
  layer_is depth known (StmtKind-F.Mark vs) = refl

  total_is : (depth : ℕ) → Known depth → (ss : List Stmt) → total (runs.callees_of fs (suc depth)) ss ≡ funs_with (funs_in fs depth) (calls_from fs (suc depth) ss)
  unfolding total
  total_is depth known [] = refl
  total_is depth known (s ∷ ss) =
      ap₂ (λ k l. k ++ l) (layer_is depth known (layer_of s)) (total_is depth known ss)
      ∙ sym (funs_both (funs_in fs depth) (layer_called fs (suc depth) (layer_of s)) (calls_from fs (suc depth) ss))

  -- where no call may be made
  none_right : (o : Option BinOp) (r : Rhs) (c : Option Expr) → right_funs (runs.callees_of fs zero) o r c ≡ []
  unfolding right_funs call_funs
  none_right o (rhs.Value e) c = refl
  none_right o (rhs.Intrinsic n args at) c = refl
  none_right o (rhs.Call n args at) c = refl

  none_layer : (k : Layer) → own_funs (runs.callees_of fs zero) k ≡ []
  unfolding own_funs
  none_layer (StmtKind-F.Assign to o r c) = none_right o r c
  none_layer (StmtKind-F.If c a b) = refl
  none_layer (StmtKind-F.While p c b) = refl
  none_layer (StmtKind-F.For i from down to b) = refl
  none_layer (StmtKind-F.Mark vs) = refl

  none_total : (ss : List Stmt) → total (runs.callees_of fs zero) ss ≡ []
  unfolding total
  none_total [] = refl
  none_total (s ∷ ss) = ap (λ k. k ++ total (runs.callees_of fs zero) ss) (none_layer (layer_of s)) ∙ none_total ss

  pub funs_are : (depth : ℕ) → Known depth
  funs_are zero f = body_funs (runs.callees_of fs zero) f.body done ∙ append-nil (total (runs.callees_of fs zero) (statements_of f.body)) ∙ none_total (statements_of f.body)
  funs_are (suc depth) f =
      body_funs (runs.callees_of fs (suc depth)) f.body done ∙ append-nil (total (runs.callees_of fs (suc depth)) (statements_of f.body))
      ∙ total_is depth (funs_are depth) (statements_of f.body)

  -- ---- as many as there are copies

  abbrev Counted : ℕ → Type 0
  Counted depth = (f : Fun) → length (funs_in fs depth f) ≡ copies_in fs depth f

  with_counted : (depth : ℕ) → Counted depth → (cs : List Called) → length (funs_with (funs_in fs depth) cs) ≡ all_copies (copies_in fs depth) cs
  with_counted depth known [] = refl
  with_counted depth known (c ∷ cs) =
      let l = length-append (funs_in fs depth c.of) (funs_with (funs_in fs depth) cs) in let k = known c.of in let r = with_counted depth known cs in omega (arith, l, k, r)

  pub funs_counted : (depth : ℕ) → Counted depth
  funs_counted zero f = copies_needed fs zero f
  funs_counted (suc depth) f = with_counted depth (funs_counted depth) (calls_in fs (suc depth) f.body) ∙ copies_needed fs (suc depth) f
