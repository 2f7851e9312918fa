-- Walks over the trees of statements.
use Rattle.std.proofs.Common.{◌≡◌, ℕ, zero, suc, Bool, ◌+◌, ◌-◌, ◌<◌, ◌≤◌, List, [], ◌∷◌, length, drop, get_or, Option, Some, None, refl, sym, ap, ◌∙◌, arith, append-nil}
use Rattle.std.proofs.lemmas.List.{drop_more, drop_all}
use Rattle.jz_tree.specs.Span.{Span}
use Rattle.jz_tree.specs.declared.expr.BinOp.{BinOp}
use Rattle.jz_tree.specs.declared.expr.Expr.{Expr}
use Rattle.jz_tree.specs.declared.expr.Var.{Var}
use Rattle.jz_tree.specs.declared.program.Fun.{Fun}
use Rattle.jz_tree.specs.declared.stmt.Lval.{Lval}
use Rattle.jz_tree.specs.declared.stmt.Rhs.{Rhs}
use Rattle.jz_tree.specs.declared.stmt.Rhs.TheVariants as rhs
use Rattle.jz_tree.specs.declared.stmt.Stmt.{Stmt}
use Rattle.jz_tree.specs.declared.stmt.StmtKind.{StmtKind}
use Rattle.jz_tree.specs.declared.stmt.StmtKind.TheVariants as kind
use Rattle.jz_tree.specs.declared.stmt.StmtKind.TheOpen.{StmtKind-F}
use Rattle.jz_tree.specs.declared.stmt.StmtKind.TheViews.{out-StmtKind, roll-out-StmtKind}
use Rattle.jz_tree.specs.declared.stmt.StmtKind.TheFolds.{fold-StmtKind, fold-roll-Stmt, fold-roll-StmtKind, map-StmtKind}
use Rattle.jz_integers.specs.Integers.{KnownNumbers}
use Rattle.jz_meaning.specs.Trees.{done}
use Rattle.jz_meaning.specs.Statements.{Block, Operation, assign, meaningless}
use Rattle.jz_meaning.specs.Runs.{Callee, Callees, with_tree, callees_of, in_order, call_tree, instruction_tree, assign_tree, body_tree, kind_tree, statement_tree, block}
use Rattle.jz_copies.specs.Called.{called_function}
use Rattle.jz_interp.proofs.Pieces.{assign_is, if_is, while_is, for_is, mark_is}
use Rattle.jz_limits.specs.Limits.{one}
use Rattle.jz_limits.specs.Walks.{Walk, behind, followed, silent, operation_walk, arms, turns, loop_walk, call_walk, walk}
use Rattle.jz_first_limit.specs.InnerMet.{piece_walk, block_walk, body_walk}
use Rattle.jz_first_limit.specs.InnerStraight.{instructed_of}

-- ---- before what follows

then_is : (w : Walk) (rest : KnownNumbers → Walk) → followed w rest ≡ followed (followed w silent) rest
then_is w rest = ap (λ ss. behind ss (rest w.known)) (sym (append-nil w.steps))

operation_then : (o : Operation) (e : KnownNumbers) (r : Block) → followed (operation_walk o e) (walk r) ≡ followed (followed (operation_walk o e) silent) (walk r)
operation_then o e r = then_is (operation_walk o e) (walk r)

call_then : (x : Option Callee) (to : List Lval) (o : Option BinOp) (args : List Expr) (c : Option Expr) (at : Span) (e : KnownNumbers) (r : Block) → walk (call_tree x to o args c at r) e ≡ followed (walk (call_tree x to o args c at done) e) (walk r)
unfolding walk
call_then (Some f) to None args None at e r = then_is (call_walk (record { to = to; callee = f.of; args = args; at = at }) (walk f.body) e) (walk r)
call_then (Some f) to None args (Some c) at e r = operation_then (meaningless at) e r
call_then (Some f) to (Some o) args c at e r = operation_then (meaningless at) e r
call_then None to o args c at e r = operation_then (meaningless at) e r

pub instruction_is : (to : List Lval) (o : Option BinOp) (n : List ℕ) (args : List Expr) (c : Option Expr) (at : Span) (e : KnownNumbers) (r : Block) → walk (instruction_tree to o n args c at r) e ≡ followed (operation_walk (instructed_of to o n args c at) e) (walk r)
unfolding walk
instruction_is to None n args None at e r = refl
instruction_is to None n args (Some c) at e r = refl
instruction_is to (Some o) n args c at e r = refl

instruction_then : (to : List Lval) (o : Option BinOp) (n : List ℕ) (args : List Expr) (c : Option Expr) (at : Span) (e : KnownNumbers) (r : Block) → walk (instruction_tree to o n args c at r) e ≡ followed (walk (instruction_tree to o n args c at done) e) (walk r)
unfolding walk
instruction_then to o n args c at e r =
    instruction_is to o n args c at e r
    ∙ (operation_then (instructed_of to o n args c at) e r
    ∙ ap (λ w. followed w (walk r)) (sym (instruction_is to o n args c at e done)))

module _ (callees : Callees) where
  abbrev Pieces : Type 0
  Pieces = StmtKind-F (Span → Block → Block) (Block → Block)

  layer_then : (x : Pieces) (at : Span) (e : KnownNumbers) (r : Block) → walk (kind_tree callees x at r) e ≡ followed (walk (kind_tree callees x at done) e) (walk r)
  unfolding walk
  layer_then (StmtKind-F.Assign to o (rhs.Value v) c) at e r = operation_then (assign to o v c at) e r
  layer_then (StmtKind-F.Assign to o (rhs.Call n args place) c) at e r = call_then (callees n) to o args c place e r
  layer_then (StmtKind-F.Assign to o (rhs.Intrinsic n args place) c) at e r = instruction_then to o n args c place e r
  layer_then (StmtKind-F.If c a b) at e r = then_is (behind (one ∷ []) (arms c (walk (in_order a done)) (walk (in_order b done)) e)) (walk r)
  layer_then (StmtKind-F.While p c b) at e r = then_is (behind (one ∷ []) (turns c (walk (in_order p done)) (walk (body_tree b)) e)) (walk r)
  layer_then (StmtKind-F.For i from down to b) at e r =
      then_is (loop_walk (record { counter = i; from = from; down = down; to = to; at = at }) (walk (in_order b done)) e) (walk r)
  layer_then (StmtKind-F.Mark xs) at e r = refl

  kind_piece : StmtKind → Span → Block → Block
  kind_piece = fold-StmtKind _ _ (kind_tree callees) (λ s. s.kind s.span)

  opened : StmtKind → Pieces
  opened k = map-StmtKind _ _ (Span → Block → Block) (Block → Block) kind_piece (statement_tree callees) (out-StmtKind k)

  kind_is : (k : StmtKind) → kind_piece k ≡ kind_tree callees (opened k)
  unfolding kind_piece opened
  kind_is k = ap kind_piece (sym (roll-out-StmtKind k)) ∙ fold-roll-StmtKind _ _ (kind_tree callees) (λ s. s.kind s.span) (out-StmtKind k)

  statement_is : (s : Stmt) → statement_tree callees s ≡ kind_tree callees (opened s.kind) s.span
  unfolding kind_piece
  statement_is s = fold-roll-Stmt _ _ (kind_tree callees) (λ s. s.kind s.span) (record { notes = s.notes; span = s.span; kind = s.kind }) ∙ ap (λ f. f s.span) (kind_is s.kind)

  pub piece_then : (s : Stmt) (e : KnownNumbers) (r : Block) → walk (statement_tree callees s r) e ≡ followed (piece_walk (statement_tree callees s) e) (walk r)
  piece_then s e r =
      ap (λ f. walk (f r) e) (statement_is s) ∙ layer_then (opened s.kind) s.span e r
      ∙ ap (λ f. followed (walk (f done) e) (walk r)) (sym (statement_is s))

  -- the statement at i, and those behind it
  pub from_here : (ss : List Stmt) (i : ℕ) (e : KnownNumbers) (s : Stmt) → i < length ss → s ≡ get_or ss i s → block_walk callees (drop i ss) e ≡ followed (piece_walk (statement_tree callees s) e) (block_walk callees (drop (i + 1) ss))
  from_here ss i e s lt is =
      ap (λ xs. block_walk callees xs e) (drop_more ss i s lt)
      ∙ (piece_then (get_or ss i s) e (block callees (drop (i + 1) ss) done)
      ∙ ap (λ x. followed (piece_walk (statement_tree callees x) e) (block_walk callees (drop (i + 1) ss))) (sym is))

  pub nothing_left : (ss : List Stmt) (i : ℕ) (e : KnownNumbers) → length ss ≤ i → block_walk callees (drop i ss) e ≡ silent e
  unfolding walk
  nothing_left ss i e le = ap (λ xs. block_walk callees xs e) (drop_all i ss le)

  -- ---- single statements

  pub if_walk : (s : Stmt) (c : Expr) (a b : List Stmt) (e : KnownNumbers) → s.kind ≡ kind.If c a b → piece_walk (statement_tree callees s) e ≡ followed (behind (one ∷ []) (arms c (block_walk callees a) (block_walk callees b) e)) silent
  unfolding walk
  if_walk s c a b e h = ap (λ f. walk (f done) e) (if_is callees s c a b h)

  pub for_walk : (s : Stmt) (i : Var) (from : Expr) (down : Bool) (to : Expr) (b : List Stmt) (e : KnownNumbers) → s.kind ≡ kind.For i from down to b → piece_walk (statement_tree callees s) e ≡ followed (loop_walk (record { counter = i; from = from; down = down; to = to; at = s.span }) (block_walk callees b) e) silent
  unfolding walk
  for_walk s i from down to b e h = ap (λ f. walk (f done) e) (for_is callees s i from down to b h)

  pub while_walk : (s : Stmt) (p : List Stmt) (c : Expr) (b : Option (List Stmt)) (e : KnownNumbers) → s.kind ≡ kind.While p c b → piece_walk (statement_tree callees s) e ≡ followed (behind (one ∷ []) (turns c (block_walk callees p) (body_walk callees b) e)) silent
  unfolding walk
  while_walk s p c None e h = ap (λ f. walk (f done) e) (while_is callees s p c None h)
  while_walk s p c (Some b) e h = ap (λ f. walk (f done) e) (while_is callees s p c (Some b) h)

  pub mark_walk : (s : Stmt) (xs : List Var) (e : KnownNumbers) → s.kind ≡ kind.Mark xs → piece_walk (statement_tree callees s) e ≡ silent e
  unfolding walk
  mark_walk s xs e h = ap (λ f. walk (f done) e) (mark_is callees s xs h)

  pub assign_walk : (s : Stmt) (to : List Lval) (o : Option BinOp) (r : Rhs) (c : Option Expr) (e : KnownNumbers) → s.kind ≡ kind.Assign to o r c → piece_walk (statement_tree callees s) e ≡ piece_walk (assign_tree callees to o r c s.span) e
  assign_walk s to o r c e h = ap (λ f. walk (f done) e) (assign_is callees s to o r c h)

pub value_walk : (to : List Lval) (o : Option BinOp) (v : Expr) (c : Option Expr) (at : Span) (e : KnownNumbers) (callees : Callees) → piece_walk (assign_tree callees to o (rhs.Value v) c at) e ≡ followed (operation_walk (assign to o v c at) e) silent
unfolding walk
value_walk to o v c at e callees = refl

pub instruction_walk : (to : List Lval) (o : Option BinOp) (n : List ℕ) (args : List Expr) (c : Option Expr) (at : Span) (e : KnownNumbers) → piece_walk (instruction_tree to o n args c at) e ≡ followed (operation_walk (instructed_of to o n args c at) e) silent
unfolding walk
instruction_walk to o n args c at e = instruction_is to o n args c at e done

-- ---- calls

meaningless_walk : (at : Span) (e : KnownNumbers) → Walk
meaningless_walk at e = followed (operation_walk (meaningless at) e) silent

refused_tree : (x : Option Callee) (to : List Lval) (o : BinOp) (args : List Expr) (c : Option Expr) (at : Span) (e : KnownNumbers) → walk (call_tree x to (Some o) args c at done) e ≡ meaningless_walk at e
unfolding walk meaningless_walk
refused_tree (Some f) to o args c at e = refl
refused_tree None to o args c at e = refl

conditioned_tree : (x : Option Callee) (to : List Lval) (args : List Expr) (c : Expr) (at : Span) (e : KnownNumbers) → walk (call_tree x to None args (Some c) at done) e ≡ meaningless_walk at e
unfolding walk meaningless_walk
conditioned_tree (Some f) to args c at e = refl
conditioned_tree None to args c at e = refl

none_tree : (to : List Lval) (args : List Expr) (at : Span) (e : KnownNumbers) → walk (call_tree None to None args None at done) e ≡ meaningless_walk at e
unfolding walk meaningless_walk
none_tree to args at e = refl

not_called_so : (fs : List Fun) (left : ℕ) (o : Option BinOp) (n : List ℕ) (c : Option Expr) (to : List Lval) (args : List Expr) (at : Span) (e : KnownNumbers) → called_function fs left o n c ≡ None → piece_walk (call_tree (callees_of fs left n) to o args c at) e ≡ meaningless_walk at e
not_called_so fs left (Some o) n c to args at e h = refused_tree (callees_of fs left n) to o args c at e
not_called_so fs left None n (Some c) to args at e h = conditioned_tree (callees_of fs left n) to args c at e
not_called_so fs zero None n None to args at e h = none_tree to args at e
not_called_so fs (suc left) None n None to args at e h =
    ap (λ x. walk (call_tree (with_tree (λ ss. block (callees_of fs left) ss done) x) to None args None at done) e) h ∙ none_tree to args at e

pub not_called : (fs : List Fun) (left : ℕ) (o : Option BinOp) (n : List ℕ) (c : Option Expr) (to : List Lval) (args : List Expr) (at : Span) (e : KnownNumbers) → called_function fs left o n c ≡ None → piece_walk (call_tree (callees_of fs left n) to o args c at) e ≡ followed (operation_walk (meaningless at) e) silent
unfolding meaningless_walk
not_called fs left o n c to args at e h = not_called_so fs left o n c to args at e h

pub is_called : (fs : List Fun) (left : ℕ) (o : Option BinOp) (n : List ℕ) (c : Option Expr) (f : Fun) (to : List Lval) (args : List Expr) (at : Span) (e : KnownNumbers) → called_function fs left o n c ≡ Some f → piece_walk (call_tree (callees_of fs left n) to o args c at) e ≡ followed (call_walk (record { to = to; callee = f; args = args; at = at }) (block_walk (callees_of fs (left - 1)) f.body) e) silent
unfolding walk
is_called fs zero o n c f to args at e h = absurd cc
is_called fs (suc left) (Some o) n c f to args at e h = absurd cc
is_called fs (suc left) None n (Some c) f to args at e h = absurd cc
is_called fs (suc left) None n None f to args at e h =
    let same : suc left - 1 ≡ left = omega arith in
    ap (λ x. walk (call_tree (with_tree (λ ss. block (callees_of fs left) ss done) x) to None args None at done) e) h
    ∙ ap (λ k. followed (call_walk (record { to = to; callee = f; args = args; at = at }) (block_walk (callees_of fs k) f.body) e) silent) (sym same)
