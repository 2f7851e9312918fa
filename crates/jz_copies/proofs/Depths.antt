-- The depths of the statements of a body, one statement after another.
use Rattle.std.proofs.Common.{◌≡◌, ℕ, zero, suc, Bool, ◌+◌, ◌-◌, ◌<◌, ◌≤◌, List, [], ◌∷◌, ◌++◌, length, drop, get_or, Option, Some, None, refl, sym, ap, ◌∙◌, arith, append-nil}
use Rattle.std.proofs.lemmas.List.{drop_more, drop_all}
use Rattle.jz_tree.specs.Span.{Span}
use Rattle.jz_tree.specs.declared.expr.BinOp.{BinOp}
use Rattle.jz_tree.specs.declared.expr.Expr.{Expr}
use Rattle.jz_tree.specs.declared.expr.Var.{Var}
use Rattle.jz_tree.specs.declared.program.Fun.{Fun}
use Rattle.jz_tree.specs.declared.stmt.Lval.{Lval}
use Rattle.jz_tree.specs.declared.stmt.Rhs.{Rhs}
use Rattle.jz_tree.specs.declared.stmt.Rhs.TheVariants as rhs
use Rattle.jz_tree.specs.declared.stmt.Stmt.{Stmt}
use Rattle.jz_tree.specs.declared.stmt.StmtKind.{StmtKind}
use Rattle.jz_tree.specs.declared.stmt.StmtKind.TheVariants as kind
use Rattle.jz_tree.specs.declared.stmt.StmtKind.TheOpen.{StmtKind-F}
use Rattle.jz_tree.specs.declared.stmt.StmtKind.TheViews.{out-StmtKind, roll-out-StmtKind}
use Rattle.jz_tree.specs.declared.stmt.StmtKind.TheFolds.{fold-StmtKind, fold-roll-Stmt, fold-roll-StmtKind, map-StmtKind}
use Rattle.jz_meaning.specs.Trees.{done}
use Rattle.jz_meaning.specs.Statements.{Block}
use Rattle.jz_meaning.specs.Runs.{Callee, Callees, with_tree, callees_of, in_order, call_tree, instruction_tree, assign_tree, body_tree, kind_tree, statement_tree, block}
use Rattle.jz_copies.specs.Called.{called_function}
use Rattle.jz_interp.proofs.Falls.{body_at}
use Rattle.jz_interp.proofs.Weights.{weights, level}
use Rattle.jz_interp.proofs.Pieces.{assign_is, if_is, while_is, for_is, mark_is}
use Rattle.jz_copies.specs.Counts.{depths_in}
use Rattle.jz_copies.specs.InnerCounts.{piece_depths, block_depths, some_depths, callee_depths, named_depths, right_depths}

-- ---- before what follows

with_none : (xs ys : List ℕ) → xs ++ ys ≡ (xs ++ []) ++ ys
with_none xs ys = ap (λ z. z ++ ys) (sym (append-nil xs))

call_then : (x : Option Callee) (to : List Lval) (o : Option BinOp) (args : List Expr) (c : Option Expr) (at : Span) (d : ℕ) (r : Block) → depths_in d (call_tree x to o args c at r) ≡ depths_in d (call_tree x to o args c at done) ++ depths_in d r
unfolding depths_in
call_then (Some f) to None args None at d r = ap (λ z. d ∷ z) (with_none (depths_in (d + 1) f.body) (depths_in d r))
call_then (Some f) to None args (Some c) at d r = refl
call_then (Some f) to (Some o) args c at d r = refl
call_then None to o args c at d r = refl

instruction_then : (to : List Lval) (o : Option BinOp) (n : List ℕ) (args : List Expr) (c : Option Expr) (at : Span) (d : ℕ) (r : Block) → depths_in d (instruction_tree to o n args c at r) ≡ depths_in d (instruction_tree to o n args c at done) ++ depths_in d r
unfolding depths_in
instruction_then to None n args None at d r = refl
instruction_then to None n args (Some c) at d r = refl
instruction_then to (Some o) n args c at d r = refl

module _ (callees : Callees) where
  abbrev Pieces : Type 0
  Pieces = StmtKind-F (Span → Block → Block) (Block → Block)

  layer_then : (x : Pieces) (at : Span) (d : ℕ) (r : Block) → depths_in d (kind_tree callees x at r) ≡ depths_in d (kind_tree callees x at done) ++ depths_in d r
  unfolding depths_in
  layer_then (StmtKind-F.Assign to o (rhs.Value e) c) at d r = refl
  layer_then (StmtKind-F.Assign to o (rhs.Call n args place) c) at d r = call_then (callees n) to o args c place d r
  layer_then (StmtKind-F.Assign to o (rhs.Intrinsic n args place) c) at d r = instruction_then to o n args c place d r
  layer_then (StmtKind-F.If c a b) at d r = ap (λ z. d ∷ z) (with_none (depths_in (d + 1) (in_order a done) ++ depths_in (d + 1) (in_order b done)) (depths_in d r))
  layer_then (StmtKind-F.While p c b) at d r = ap (λ z. d ∷ z) (with_none (depths_in (d + 1) (in_order p done) ++ depths_in (d + 1) (body_tree b)) (depths_in d r))
  layer_then (StmtKind-F.For i from down to b) at d r = ap (λ z. d ∷ z) (with_none (depths_in (d + 1) (in_order b done)) (depths_in d r))
  layer_then (StmtKind-F.Mark xs) at d r = refl

  kind_piece : StmtKind → Span → Block → Block
  kind_piece = fold-StmtKind _ _ (kind_tree callees) (λ s. s.kind s.span)

  opened : StmtKind → Pieces
  opened k = map-StmtKind _ _ (Span → Block → Block) (Block → Block) kind_piece (statement_tree callees) (out-StmtKind k)

  kind_is : (k : StmtKind) → kind_piece k ≡ kind_tree callees (opened k)
  unfolding kind_piece opened
  kind_is k = ap kind_piece (sym (roll-out-StmtKind k)) ∙ fold-roll-StmtKind _ _ (kind_tree callees) (λ s. s.kind s.span) (out-StmtKind k)

  statement_is : (s : Stmt) → statement_tree callees s ≡ kind_tree callees (opened s.kind) s.span
  unfolding kind_piece
  statement_is s = fold-roll-Stmt _ _ (kind_tree callees) (λ s. s.kind s.span) (record { notes = s.notes; span = s.span; kind = s.kind }) ∙ ap (λ f. f s.span) (kind_is s.kind)

  pub piece_then : (s : Stmt) (d : ℕ) (r : Block) → depths_in d (statement_tree callees s r) ≡ piece_depths d (statement_tree callees s) ++ depths_in d r
  piece_then s d r =
      ap (λ f. depths_in d (f r)) (statement_is s) ∙ layer_then (opened s.kind) s.span d r
      ∙ ap (λ f. depths_in d (f done) ++ depths_in d r) (sym (statement_is s))

  -- the statement at i, and those behind it
  pub from_here : (ss : List Stmt) (i d : ℕ) (s : Stmt) → i < length ss → s ≡ get_or ss i s → block_depths callees d (drop i ss) ≡ piece_depths d (statement_tree callees s) ++ block_depths callees d (drop (i + 1) ss)
  from_here ss i d s lt is =
      ap (block_depths callees d) (drop_more ss i s lt)
      ∙ piece_then (get_or ss i s) d (block callees (drop (i + 1) ss) done)
      ∙ ap (λ x. piece_depths d (statement_tree callees x) ++ block_depths callees d (drop (i + 1) ss)) (sym is)

  -- ---- single statements

  pub if_depths : (s : Stmt) (c : Expr) (a b : List Stmt) (d : ℕ) → s.kind ≡ kind.If c a b → piece_depths d (statement_tree callees s) ≡ d ∷ (block_depths callees (d + 1) a ++ block_depths callees (d + 1) b)
  unfolding depths_in
  if_depths s c a b d e = ap (piece_depths d) (if_is callees s c a b e) ∙ ap (λ z. d ∷ z) (append-nil (block_depths callees (d + 1) a ++ block_depths callees (d + 1) b))

  pub for_depths : (s : Stmt) (i : Var) (from : Expr) (down : Bool) (to : Expr) (b : List Stmt) (d : ℕ) → s.kind ≡ kind.For i from down to b → piece_depths d (statement_tree callees s) ≡ d ∷ block_depths callees (d + 1) b
  unfolding depths_in
  for_depths s i from down to b d e = ap (piece_depths d) (for_is callees s i from down to b e) ∙ ap (λ z. d ∷ z) (append-nil (block_depths callees (d + 1) b))

  pub while_depths : (s : Stmt) (p : List Stmt) (c : Expr) (b : Option (List Stmt)) (d : ℕ) → s.kind ≡ kind.While p c b → piece_depths d (statement_tree callees s) ≡ d ∷ (block_depths callees (d + 1) p ++ some_depths callees (d + 1) b)
  unfolding depths_in
  while_depths s p c None d e = ap (piece_depths d) (while_is callees s p c None e) ∙ ap (λ z. d ∷ z) (append-nil (block_depths callees (d + 1) p ++ []))
  while_depths s p c (Some b) d e = ap (piece_depths d) (while_is callees s p c (Some b) e) ∙ ap (λ z. d ∷ z) (append-nil (block_depths callees (d + 1) p ++ block_depths callees (d + 1) b))

  pub mark_depths : (s : Stmt) (xs : List Var) (d : ℕ) → s.kind ≡ kind.Mark xs → piece_depths d (statement_tree callees s) ≡ []
  unfolding depths_in
  mark_depths s xs d e = ap (piece_depths d) (mark_is callees s xs e)

  call_depths : (x : Option Callee) (n : List ℕ) (to : List Lval) (o : Option BinOp) (args : List Expr) (c : Option Expr) (at : Span) (d : ℕ) → callees n ≡ x → depths_in d (call_tree x to o args c at done) ≡ d ∷ named_depths callees d o n c
  unfolding depths_in
  call_depths (Some f) n to None args None at d e = ap (λ z. d ∷ z) (append-nil (depths_in (d + 1) f.body) ∙ ap (callee_depths d) (sym e))
  call_depths (Some f) n to None args (Some c) at d e = refl
  call_depths (Some f) n to (Some o) args c at d e = refl
  call_depths None n to None args None at d e = ap (λ z. d ∷ callee_depths d z) (sym e)
  call_depths None n to None args (Some c) at d e = refl
  call_depths None n to (Some o) args c at d e = refl

  right_is : (r : Rhs) (to : List Lval) (o : Option BinOp) (c : Option Expr) (at : Span) (d : ℕ) → depths_in d (assign_tree callees to o r c at done) ≡ d ∷ right_depths callees d o r c
  unfolding depths_in
  right_is (rhs.Value e) to o c at d = refl
  right_is (rhs.Call n args place) to o c at d = call_depths (callees n) n to o args c place d refl
  right_is (rhs.Intrinsic n args place) to None None at d = refl
  right_is (rhs.Intrinsic n args place) to None (Some c) at d = refl
  right_is (rhs.Intrinsic n args place) to (Some o) c at d = refl

  pub assign_depths : (s : Stmt) (to : List Lval) (o : Option BinOp) (r : Rhs) (c : Option Expr) (d : ℕ) → s.kind ≡ kind.Assign to o r c → piece_depths d (statement_tree callees s) ≡ d ∷ right_depths callees d o r c
  assign_depths s to o r c d e = ap (piece_depths d) (assign_is callees s to o r c e) ∙ right_is r to o c s.span d

-- ---- what a call copies

pub none_called : (fs : List Fun) (left d : ℕ) (o : Option BinOp) (n : List ℕ) (c : Option Expr) → called_function fs left o n c ≡ None → named_depths (callees_of fs left) d o n c ≡ []
none_called fs left d (Some o) n c e = refl
none_called fs left d None n (Some c) e = refl
none_called fs zero d None n None e = refl
none_called fs (suc left) d None n None e = ap (λ x. callee_depths d (with_tree (λ ss. block (callees_of fs left) ss done) x)) e

pub one_called : (fs : List Fun) (left d : ℕ) (o : Option BinOp) (n : List ℕ) (c : Option Expr) (f : Fun) → called_function fs left o n c ≡ Some f → named_depths (callees_of fs left) d o n c ≡ block_depths (callees_of fs (left - 1)) (d + 1) f.body
one_called fs zero d o n c f e = absurd cc
one_called fs (suc left) d (Some o) n c f e = absurd cc
one_called fs (suc left) d None n (Some c) f e = absurd cc
one_called fs (suc left) d None n None f e =
    let same : suc left - 1 ≡ left = omega arith in
    ap (λ x. callee_depths d (with_tree (λ ss. block (callees_of fs left) ss done) x)) e ∙ ap (λ k. block_depths (callees_of fs k) (d + 1) f.body) (sym same)

-- no statement is left
pub nothing_left : (callees : Callees) (ss : List Stmt) (i d : ℕ) → length ss ≤ i → block_depths callees d (drop i ss) ≡ []
unfolding depths_in
nothing_left callees ss i d le = ap (block_depths callees d) (drop_all i ss le)

-- what a call copies is less than what may be copied where calls are as deep as here
pub one_deeper : (fs : List Fun) (left : ℕ) (o : Option BinOp) (n : List ℕ) (c : Option Expr) (f : Fun) → called_function fs left o n c ≡ Some f → level fs (left - 1) + weights f.body < level fs left
one_deeper fs zero o n c f e = absurd cc
one_deeper fs (suc left) None n None f e = let x = body_at n fs f e in let y : suc left - 1 ≡ left = omega arith in let h = ap (level fs) y in omega (arith, h, x)
one_deeper fs (suc left) None n (Some c) f e = absurd cc
one_deeper fs (suc left) (Some o) n c f e = absurd cc
