-- What a statement of each form becomes.
use Rattle.std.proofs.Common.{◌≡◌, ℕ, suc, zero, ◌-◌, Bool, List, Option, Some, None, refl, sym, ap, ◌∙◌, arith}
use Rattle.jz_tree.specs.Span.{Span}
use Rattle.jz_tree.specs.declared.expr.BinOp.{BinOp}
use Rattle.jz_tree.specs.declared.expr.Expr.{Expr}
use Rattle.jz_tree.specs.declared.expr.Var.{Var}
use Rattle.jz_tree.specs.declared.stmt.Lval.{Lval}
use Rattle.jz_tree.specs.declared.stmt.Rhs.{Rhs}
use Rattle.jz_tree.specs.declared.stmt.Rhs.TheVariants as rhs
use Rattle.jz_tree.specs.declared.stmt.Stmt.{Stmt}
use Rattle.jz_tree.specs.declared.stmt.StmtKind.{StmtKind}
use Rattle.jz_tree.specs.declared.stmt.StmtKind.TheVariants as kind
use Rattle.jz_tree.specs.declared.stmt.StmtKind.TheOpen.{StmtKind-F}
use Rattle.jz_tree.specs.declared.stmt.StmtKind.TheFolds.{fold-StmtKind, fold-roll-Stmt, fold-roll-StmtKind}
use Rattle.jz_tree.specs.declared.program.Fun.{Fun}
use Rattle.jz_tree.specs.declared.program.Note.{Note}
use Rattle.jz_copies.specs.Called.{called_function}
use Rattle.jz_inline.specs.Names.{var_in, expr_in}
use Rattle.jz_inline.specs.Statements.{Piece, CopiedFun, CopiedFuns, plain_assignment, copied_piece, call_piece, assign_piece, if_piece, for_piece, kind_made, statement_piece, body_piece, with_piece, copied_funs}
use Rattle.jz_inlining.specs.declared.parts.Assignment.{Assignment}
use Rattle.jz_inlining.specs.declared.parts.Test.{Test}
use Rattle.jz_inlining.specs.declared.parts.Counter.{Counter}
use Rattle.jz_inlining.specs.InnerCopies.{mark_piece, while_by, assignment_piece, plain_of, if_of, while_of, for_of}

abbrev for_with : List Note → Span → Var → Expr → Bool → Expr → Piece → Piece
for_with notes at i from down to b = for_piece notes at (λ names ss. kind.For (var_in names i) (expr_in names from) down (expr_in names to) ss) b

module _ (funs : CopiedFuns) where
  kind_piece : StmtKind → List Note → Span → Piece
  kind_piece = fold-StmtKind _ _ (kind_made funs) (λ s. s.kind s.notes s.span)

  statement_is : (s : Stmt) → statement_piece funs s ≡ kind_piece s.kind s.notes s.span
  unfolding kind_piece
  statement_is s = fold-roll-Stmt _ _ (kind_made funs) (λ s. s.kind s.notes s.span) (record { notes = s.notes; span = s.span; kind = s.kind })

  pub if_is : (s : Stmt) (c : Expr) (a b : List Stmt) → s.kind ≡ kind.If c a b → statement_piece funs s ≡ if_piece s.notes s.span c (body_piece funs a) (body_piece funs b)
  unfolding kind_piece
  if_is s c a b e =
      statement_is s ∙ ap (λ x. kind_piece x s.notes s.span) e ∙ ap (λ x. kind_piece x s.notes s.span) (sym (kind.rolls-If c a b))
      ∙ ap (λ f. f s.notes s.span) (fold-roll-StmtKind _ _ (kind_made funs) (λ s. s.kind s.notes s.span) (StmtKind-F.If c a b))

  pub assign_is : (s : Stmt) (to : List Lval) (o : Option BinOp) (r : Rhs) (c : Option Expr) → s.kind ≡ kind.Assign to o r c → statement_piece funs s ≡ assign_piece funs s.notes s.span to o r c
  unfolding kind_piece
  assign_is s to o r c e =
      statement_is s ∙ ap (λ x. kind_piece x s.notes s.span) e ∙ ap (λ x. kind_piece x s.notes s.span) (sym (kind.rolls-Assign to o r c))
      ∙ ap (λ f. f s.notes s.span) (fold-roll-StmtKind _ _ (kind_made funs) (λ s. s.kind s.notes s.span) (StmtKind-F.Assign to o r c))

  pub mark_is : (s : Stmt) (xs : List Var) → s.kind ≡ kind.Mark xs → statement_piece funs s ≡ mark_piece s.notes s.span xs
  unfolding kind_piece
  mark_is s xs e =
      statement_is s ∙ ap (λ x. kind_piece x s.notes s.span) e ∙ ap (λ x. kind_piece x s.notes s.span) (sym (kind.rolls-Mark xs))
      ∙ ap (λ f. f s.notes s.span) (fold-roll-StmtKind _ _ (kind_made funs) (λ s. s.kind s.notes s.span) (StmtKind-F.Mark xs))

  pub for_is : (s : Stmt) (i : Var) (from : Expr) (down : Bool) (to : Expr) (b : List Stmt) → s.kind ≡ kind.For i from down to b
      → statement_piece funs s ≡ for_piece s.notes s.span (λ names ss. kind.For (var_in names i) (expr_in names from) down (expr_in names to) ss) (body_piece funs b)
  unfolding kind_piece
  for_is s i from down to b e =
      statement_is s ∙ ap (λ x. kind_piece x s.notes s.span) e ∙ ap (λ x. kind_piece x s.notes s.span) (sym (kind.rolls-For i from down to b))
      ∙ ap (λ f. f s.notes s.span) (fold-roll-StmtKind _ _ (kind_made funs) (λ s. s.kind s.notes s.span) (StmtKind-F.For i from down to b))

  pub while_is : (s : Stmt) (p : List Stmt) (c : Expr) (b : Option (List Stmt)) → s.kind ≡ kind.While p c b → statement_piece funs s ≡ while_by funs s.notes s.span (body_piece funs p) c b
  unfolding kind_piece
  while_is s p c None e =
      statement_is s ∙ ap (λ x. kind_piece x s.notes s.span) e ∙ ap (λ x. kind_piece x s.notes s.span) (sym (kind.rolls-While p c None))
      ∙ ap (λ f. f s.notes s.span) (fold-roll-StmtKind _ _ (kind_made funs) (λ s. s.kind s.notes s.span) (StmtKind-F.While p c None))
  while_is s p c (Some b) e =
      statement_is s ∙ ap (λ x. kind_piece x s.notes s.span) e ∙ ap (λ x. kind_piece x s.notes s.span) (sym (kind.rolls-While p c (Some b)))
      ∙ ap (λ f. f s.notes s.span) (fold-roll-StmtKind _ _ (kind_made funs) (λ s. s.kind s.notes s.span) (StmtKind-F.While p c (Some b)))

  -- ---- by the parts that go together

  pub assignment_is : (s : Stmt) (a : Assignment) (to : List Lval) (o : Option BinOp) (r : Rhs) (c : Option Expr) → s.kind ≡ kind.Assign to o r c
      → a.notes.now ≡ s.notes → a.span ≡ s.span → a.to.now ≡ to → a.op ≡ o → a.cond.now ≡ c → statement_piece funs s ≡ assignment_piece funs a r
  assignment_is s a to o r c e n at d p q =
      assign_is s to o r c e
      ∙ sym (ap (λ x. assign_piece funs x a.span a.to.now a.op r a.cond.now) n
      ∙ ap (λ x. assign_piece funs s.notes x a.to.now a.op r a.cond.now) at
      ∙ ap (λ x. assign_piece funs s.notes s.span x a.op r a.cond.now) d
      ∙ ap (λ x. assign_piece funs s.notes s.span to x r a.cond.now) p
      ∙ ap (λ x. assign_piece funs s.notes s.span to o r x) q)

  pub branch_is : (s : Stmt) (t : Test) (c : Expr) (a b : List Stmt) → s.kind ≡ kind.If c a b
      → t.notes.now ≡ s.notes → t.span ≡ s.span → t.cond.now ≡ c → statement_piece funs s ≡ if_of t (body_piece funs a) (body_piece funs b)
  branch_is s t c a b e n at q =
      if_is s c a b e
      ∙ sym (ap (λ x. if_piece x t.span t.cond.now (body_piece funs a) (body_piece funs b)) n
      ∙ ap (λ x. if_piece s.notes x t.cond.now (body_piece funs a) (body_piece funs b)) at
      ∙ ap (λ x. if_piece s.notes s.span x (body_piece funs a) (body_piece funs b)) q)

  pub loop_is : (s : Stmt) (t : Test) (p : List Stmt) (c : Expr) (b : Option (List Stmt)) → s.kind ≡ kind.While p c b
      → t.notes.now ≡ s.notes → t.span ≡ s.span → t.cond.now ≡ c → statement_piece funs s ≡ while_of funs t (body_piece funs p) b
  loop_is s t p c b e n at q =
      while_is s p c b e
      ∙ sym (ap (λ x. while_by funs x t.span (body_piece funs p) t.cond.now b) n
      ∙ ap (λ x. while_by funs s.notes x (body_piece funs p) t.cond.now b) at
      ∙ ap (λ x. while_by funs s.notes s.span (body_piece funs p) x b) q)

  pub rounds_are : (s : Stmt) (k : Counter) (i : Var) (from : Expr) (down : Bool) (to : Expr) (b : List Stmt) → s.kind ≡ kind.For i from down to b
      → k.notes.now ≡ s.notes → k.span ≡ s.span → k.counter.now ≡ i → k.from.now ≡ from → k.down ≡ down → k.to.now ≡ to → statement_piece funs s ≡ for_of k (body_piece funs b)
  rounds_are s k i from down to b e n at v f d u =
      for_is s i from down to b e
      ∙ sym (ap (λ x. for_with x k.span k.counter.now k.from.now k.down k.to.now (body_piece funs b)) n
      ∙ ap (λ x. for_with s.notes x k.counter.now k.from.now k.down k.to.now (body_piece funs b)) at
      ∙ ap (λ x. for_with s.notes s.span x k.from.now k.down k.to.now (body_piece funs b)) v
      ∙ ap (λ x. for_with s.notes s.span i x k.down k.to.now (body_piece funs b)) f
      ∙ ap (λ x. for_with s.notes s.span i from x k.to.now (body_piece funs b)) d
      ∙ ap (λ x. for_with s.notes s.span i from down x (body_piece funs b)) u)

-- ---- calls

-- what a call of this function becomes, where calls in its body may be so deep
abbrev pub copied_at : List Fun → ℕ → Fun → CopiedFun
copied_at fs left f = record { of = f; body = body_piece (copied_funs fs left) f.body }

pub called_is : (fs : List Fun) (left : ℕ) (notes : List Note) (at : Span) (to : List Lval) (o : Option BinOp) (n : List ℕ) (args : List Expr) (c : Option Expr) (place : Span) (f : Fun)
    → called_function fs left o n c ≡ Some f → assign_piece (copied_funs fs left) notes at to o (rhs.Call n args place) c ≡ copied_piece (copied_at fs (left - 1) f) to args place
called_is fs zero notes at to o n args c place f e = absurd cc
called_is fs (suc d) notes at to None n args None place f e =
    let less : d ≡ suc d - 1 = omega arith in
    ap (λ x. call_piece (with_piece (body_piece (copied_funs fs d)) x) notes at to None n args None place) e
    ∙ ap (λ k. copied_piece (copied_at fs k f) to args place) less
called_is fs (suc d) notes at to None n args (Some c) place f e = absurd cc
called_is fs (suc d) notes at to (Some o) n args c place f e = absurd cc

-- with an operation or a condition it stays as it is
kept_with : (x : Option CopiedFun) (notes : List Note) (at : Span) (to : List Lval) (o : BinOp) (n : List ℕ) (args : List Expr) (c : Option Expr) (place : Span)
    → call_piece x notes at to (Some o) n args c place ≡ plain_assignment notes at to (Some o) (rhs.Call n args place) c
kept_with None notes at to o n args c place = refl
kept_with (Some f) notes at to o n args c place = refl

kept_if : (x : Option CopiedFun) (notes : List Note) (at : Span) (to : List Lval) (n : List ℕ) (args : List Expr) (c : Expr) (place : Span)
    → call_piece x notes at to None n args (Some c) place ≡ plain_assignment notes at to None (rhs.Call n args place) (Some c)
kept_if None notes at to n args c place = refl
kept_if (Some f) notes at to n args c place = refl

pub not_called : (fs : List Fun) (left : ℕ) (notes : List Note) (at : Span) (to : List Lval) (o : Option BinOp) (n : List ℕ) (args : List Expr) (c : Option Expr) (place : Span)
    → called_function fs left o n c ≡ None → assign_piece (copied_funs fs left) notes at to o (rhs.Call n args place) c ≡ plain_assignment notes at to o (rhs.Call n args place) c
not_called fs zero notes at to o n args c place e = refl
not_called fs (suc d) notes at to None n args None place e = ap (λ x. call_piece (with_piece (body_piece (copied_funs fs d)) x) notes at to None n args None place) e
not_called fs (suc d) notes at to None n args (Some c) place e = kept_if (copied_funs fs (suc d) n) notes at to n args c place
not_called fs (suc d) notes at to (Some o) n args c place e = kept_with (copied_funs fs (suc d) n) notes at to o n args c place

-- ---- assignments that copy no body

pub plain_value : (funs : CopiedFuns) (a : Assignment) (r : Rhs) (e : Expr) → r ≡ rhs.Value e → assignment_piece funs a r ≡ plain_of a r
plain_value funs a r e is = ap (assignment_piece funs a) is ∙ ap (plain_of a) (sym is)

pub plain_intrinsic : (funs : CopiedFuns) (a : Assignment) (r : Rhs) (n : List ℕ) (args : List Expr) (at : Span) → r ≡ rhs.Intrinsic n args at → assignment_piece funs a r ≡ plain_of a r
plain_intrinsic funs a r n args at is = ap (assignment_piece funs a) is ∙ ap (plain_of a) (sym is)

pub plain_called : (fs : List Fun) (left : ℕ) (a : Assignment) (r : Rhs) (n : List ℕ) (args : List Expr) (at : Span) → r ≡ rhs.Call n args at → called_function fs left a.op n a.cond.now ≡ None → assignment_piece (copied_funs fs left) a r ≡ plain_of a r
plain_called fs left a r n args at is none =
    ap (assignment_piece (copied_funs fs left) a) is ∙ not_called fs left a.notes.now a.span a.to.now a.op n args a.cond.now at none ∙ ap (plain_of a) (sym is)
