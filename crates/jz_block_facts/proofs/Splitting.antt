-- The trees of statements, and how they come apart.
use Rattle.std.proofs.Common.{◌≡◌, ℕ, suc, ◌+◌, ◌<◌, ◌≤◌, Bool, List, [], ◌∷◌, Option, Some, None, refl, sym, ap, ◌∙◌, subst, arith}
use Rattle.std.specs.Prelude.{not, is_some, slice_get}
use Rattle.indexmap.specs.IndexMap.{IndexMap}
use Rattle.jz_tree.specs.Span.{Span}
use Rattle.jz_tree.specs.declared.expr.BinOp.{BinOp}
use Rattle.jz_tree.specs.declared.expr.Expr.{Expr}
use Rattle.jz_tree.specs.declared.expr.Var.{Var}
use Rattle.jz_tree.specs.declared.stmt.Lval.{Lval}
use Rattle.jz_tree.specs.declared.stmt.Rhs.{Rhs}
use Rattle.jz_tree.specs.declared.stmt.Rhs.TheVariants as rhs
use Rattle.jz_tree.specs.declared.stmt.Stmt.{Stmt}
use Rattle.jz_tree.specs.declared.stmt.StmtKind.{StmtKind}
use Rattle.jz_tree.specs.declared.stmt.StmtKind.TheVariants as kind
use Rattle.jz_tree.specs.declared.stmt.StmtKind.TheOpen.{StmtKind-F}
use Rattle.jz_tree.specs.declared.stmt.StmtKind.TheViews.{out-StmtKind, roll-out-StmtKind}
use Rattle.jz_tree.specs.declared.stmt.StmtKind.TheFolds.{fold-StmtKind, fold-roll-Stmt, fold-roll-StmtKind, map-StmtKind}
use Rattle.jz_runs.specs.Trees.{Tree, done, op, quiet, choose, loop, each, call}
use Rattle.jz_meaning.specs.Statements.{Operation, Condition, Counter, Block, unset}
use Rattle.jz_meaning.specs.Runs.{block, statement_tree, kind_tree, assign_tree, instruction_tree}
use Rattle.jz_flow.specs.Sets.{common}
use Rattle.jz_flow.specs.Flow.{After}
use Rattle.jz_facts.specs.Facts.{Facts}
use Rattle.jz_facts.specs.Holding.{does, quieted}
use Rattle.jz_facts.specs.Tests.{leaves}
use Rattle.jz_facts.specs.Along.{fact_steps}
use Rattle.jz_layers.specs.declared.named.Named.{Named}
use Rattle.jz_fact_sets.specs.declared.given.Given as code
use Rattle.jz_fact_sets.specs.declared.knowledge.Knowledge.{Knowledge}
use Rattle.jz_fact_sets.specs.Kept.{given_of}
use Rattle.jz_block_facts.specs.Heads.{no_callees, HasNoFor, loops, laid, AreHeads}
use Rattle.jz_block_facts.specs.Pieces.{body_piece, operation_of}
use Rattle.jz_block_facts.specs.InnerWalks.{AreSame}

Pieces : Type 0
Pieces = StmtKind-F (Span → Block → Block) (Block → Block)

kind_piece : StmtKind → Span → Block → Block
kind_piece = fold-StmtKind _ _ (kind_tree no_callees) (λ s. s.kind s.span)

opened : StmtKind → StmtKind-F (Span → Block → Block) (Block → Block)
opened k = map-StmtKind _ _ (Span → Block → Block) (Block → Block) kind_piece (statement_tree no_callees) (out-StmtKind k)

kind_is : (k : StmtKind) → kind_piece k ≡ kind_tree no_callees (opened k)
unfolding kind_piece opened
kind_is k = ap kind_piece (sym (roll-out-StmtKind k)) ∙ fold-roll-StmtKind _ _ (kind_tree no_callees) (λ s. s.kind s.span) (out-StmtKind k)

by_kind : (s : Stmt) → statement_tree no_callees s ≡ kind_piece s.kind s.span
unfolding kind_piece
by_kind s = fold-roll-Stmt _ _ (kind_tree no_callees) (λ s. s.kind s.span) (record { notes = s.notes; span = s.span; kind = s.kind })

statement_is : (s : Stmt) → statement_tree no_callees s ≡ kind_tree no_callees (opened s.kind) s.span
statement_is s = by_kind s ∙ ap (λ f. f s.span) (kind_is s.kind)

-- ---- each kind of statement

pub if_is : (s : Stmt) (c : Expr) (a b : List Stmt) → s.kind ≡ kind.If c a b → statement_tree no_callees s ≡ choose (record { cond = c; at = s.span }) (block no_callees a done) (block no_callees b done)
unfolding kind_piece
if_is s c a b e = by_kind s ∙ ap (λ x. kind_piece x s.span) e ∙ ap (λ x. kind_piece x s.span) (sym (kind.rolls-If c a b)) ∙ ap (λ f. f s.span) (fold-roll-StmtKind _ _ (kind_tree no_callees) (λ s. s.kind s.span) (StmtKind-F.If c a b))

assign_tree_is : (s : Stmt) (to : List Lval) (o : Option BinOp) (r : Rhs) (c : Option Expr) → s.kind ≡ kind.Assign to o r c → statement_tree no_callees s ≡ assign_tree no_callees to o r c s.span
unfolding kind_piece
assign_tree_is s to o r c e = by_kind s ∙ ap (λ x. kind_piece x s.span) e ∙ ap (λ x. kind_piece x s.span) (sym (kind.rolls-Assign to o r c)) ∙ ap (λ f. f s.span) (fold-roll-StmtKind _ _ (kind_tree no_callees) (λ s. s.kind s.span) (StmtKind-F.Assign to o r c))

operation_is : (to : List Lval) (o : Option BinOp) (r : Rhs) (c : Option Expr) (at : Span) → assign_tree no_callees to o r c at ≡ op (operation_of to o r c at)
operation_is to o (rhs.Value e) c at = refl
operation_is to o (rhs.Call n args place) c at = refl
operation_is to None (rhs.Intrinsic n args place) None at = refl
operation_is to None (rhs.Intrinsic n args place) (Some c) at = refl
operation_is to (Some o) (rhs.Intrinsic n args place) c at = refl

pub assign_is : (s : Stmt) (to : List Lval) (o : Option BinOp) (r : Rhs) (c : Option Expr) → s.kind ≡ kind.Assign to o r c → statement_tree no_callees s ≡ op (operation_of to o r c s.span)
assign_is s to o r c e = assign_tree_is s to o r c e ∙ operation_is to o r c s.span

pub mark_is : (s : Stmt) (xs : List Var) → s.kind ≡ kind.Mark xs → statement_tree no_callees s ≡ quiet (unset xs)
unfolding kind_piece
mark_is s xs e = by_kind s ∙ ap (λ x. kind_piece x s.span) e ∙ ap (λ x. kind_piece x s.span) (sym (kind.rolls-Mark xs)) ∙ ap (λ f. f s.span) (fold-roll-StmtKind _ _ (kind_tree no_callees) (λ s. s.kind s.span) (StmtKind-F.Mark xs))

pub for_is : (s : Stmt) (i : Var) (from : Expr) (down : Bool) (to : Expr) (b : List Stmt) → s.kind ≡ kind.For i from down to b → statement_tree no_callees s ≡ each (record { counter = i; from = from; down = down; to = to; at = s.span }) (block no_callees b done)
unfolding kind_piece
for_is s i from down to b e = by_kind s ∙ ap (λ x. kind_piece x s.span) e ∙ ap (λ x. kind_piece x s.span) (sym (kind.rolls-For i from down to b)) ∙ ap (λ f. f s.span) (fold-roll-StmtKind _ _ (kind_tree no_callees) (λ s. s.kind s.span) (StmtKind-F.For i from down to b))

pub while_is : (s : Stmt) (p : List Stmt) (c : Expr) (b : Option (List Stmt)) → s.kind ≡ kind.While p c b → statement_tree no_callees s ≡ loop (not (is_some b)) (block no_callees p done) (record { cond = c; at = s.span }) (body_piece b done)
unfolding kind_piece
while_is s p c None e = by_kind s ∙ ap (λ x. kind_piece x s.span) e ∙ ap (λ x. kind_piece x s.span) (sym (kind.rolls-While p c None)) ∙ ap (λ f. f s.span) (fold-roll-StmtKind _ _ (kind_tree no_callees) (λ s. s.kind s.span) (StmtKind-F.While p c None))
while_is s p c (Some b) e = by_kind s ∙ ap (λ x. kind_piece x s.span) e ∙ ap (λ x. kind_piece x s.span) (sym (kind.rolls-While p c (Some b))) ∙ ap (λ f. f s.span) (fold-roll-StmtKind _ _ (kind_tree no_callees) (λ s. s.kind s.span) (StmtKind-F.While p c (Some b)))

-- ---- heads

module _ {S : Type 0} (g : code.Given) where
  pub heads_at : (t : Block) (i j : ℕ) (hs : List (IndexMap Named Knowledge S)) (s : Facts) → i ≡ j → AreHeads g t i hs s → AreHeads g t j hs s
  heads_at t i j hs s e h = subst (λ n. AreHeads g t n hs s) e h

  -- the heads of a body go by the tables at its own numbers
  pub same_heads : (t : Block) (i : ℕ) (us vs : List (IndexMap Named Knowledge S)) (s : Facts) → AreSame i (i + loops t) us vs → AreHeads g t i vs s → AreHeads g t i us s
  same_heads done i us vs s e h = tt
  same_heads (op o r) i us vs s e h = same_heads r i us vs (does (given_of g) o s) e h
  same_heads (quiet o r) i us vs s e h = same_heads r i us vs (quieted o s) e h
  same_heads (choose c a b r) i us vs s e (x, y, ha, hb, fa, fb, hr) = (
    x,
    y,
    same_heads a i us vs _ (λ k l m. e k (omega (arith, l)) (omega (arith, m))) ha,
    same_heads b (i + loops a) us vs _ (λ k l m. e k (omega (arith, l)) (omega (arith, m))) hb,
    fa,
    fb,
    same_heads r (i + loops a + loops b) us vs _ (λ k l m. e k (omega (arith, l)) (omega (arith, m))) hr,
  )
  same_heads (loop w p c b r) i us vs s e (m, q, is, k, hp, fp, hb, hr) = (
    m,
    q,
    e i (omega arith) (omega arith) ∙ is,
    k,
    same_heads p (suc i) us vs _ (λ k l m. e k (omega (arith, l)) (omega (arith, m))) hp,
    fp,
    same_heads b (suc i + loops p) us vs _ (λ k l m. e k (omega (arith, l)) (omega (arith, m))) hb,
    same_heads r (suc i + loops p + loops b) us vs _ (λ k l m. e k (omega (arith, l)) (omega (arith, m))) hr,
  )
  same_heads (each f b r) i us vs s e h = absurd h
  same_heads (call c b r) i us vs s e h = absurd h

module _ (S : Type 0) (g : code.Given) where
  -- a piece and what follows it
  pub record Splits (piece : Block → Block) : Type 0 where
    pub loops_on : (r : Block) → loops (piece r) ≡ loops (piece done) + loops r
    pub plain_on : (r : Block) → HasNoFor (piece r) → HasNoFor (piece done) × HasNoFor r
    pub heads_on :
        (r : Block) (i : ℕ) (hs : List (IndexMap Named Knowledge S)) (s : Facts) → AreHeads g (piece r) i hs s
        → AreHeads g (piece done) i hs s
        × ((x : Facts) × After (fact_steps (given_of g)) (piece done) s x × AreHeads g r (i + loops (piece done)) hs x)

  op_splits : (o : Operation) → Splits (op o)
  op_splits o = record {
    loops_on = λ r. omega arith;
    plain_on = λ r h. ((tt, tt), h.1);
    heads_on = λ r i hs s h. (tt, (does (given_of g) o s, refl, heads_at g r i (i + 0) hs (does (given_of g) o s) (omega arith) h));
  }

  quiet_splits : (o : Operation) → Splits (quiet o)
  quiet_splits o = record {
    loops_on = λ r. omega arith;
    plain_on = λ r h. ((tt, tt), h.1);
    heads_on = λ r i hs s h. (tt, (quieted o s, refl, heads_at g r i (i + 0) hs (quieted o s) (omega arith) h));
  }

  choose_splits : (c : Condition) (a b : Block) → Splits (choose c a b)
  choose_splits c a b = record {
    loops_on = λ r. omega arith;
    plain_on = λ r h. ((tt, h.1, h.2, tt), h.3);
    heads_on = on;
  }
    where
      on : (r : Block) (i : ℕ) (hs : List (IndexMap Named Knowledge S)) (s : Facts) → AreHeads g (choose c a b r) i hs s
          → AreHeads g (choose c a b done) i hs s
          × ((x : Facts) × After (fact_steps (given_of g)) (choose c a b done) s x × AreHeads g r (i + loops (choose c a b done)) hs x)
      on r i hs s (x, y, ha, hb, fa, fb, hr) =
          ((x, y, ha, hb, fa, fb, tt), (common x y, (x, y, fa, fb, refl), heads_at g r (i + loops a + loops b) (i + (loops a + loops b + 0)) hs (common x y) (omega arith) hr))

  loop_splits : (w : Bool) (p : Block) (c : Condition) (b : Block) → Splits (loop w p c b)
  loop_splits w p c b = record {
    loops_on = λ r. omega arith;
    plain_on = λ r h. ((tt, h.1, h.2, tt), h.3);
    heads_on = on;
  }
    where
      on : (r : Block) (i : ℕ) (hs : List (IndexMap Named Knowledge S)) (s : Facts) → AreHeads g (loop w p c b r) i hs s
          → AreHeads g (loop w p c b done) i hs s
          × ((x : Facts) × After (fact_steps (given_of g)) (loop w p c b done) s x × AreHeads g r (i + loops (loop w p c b done)) hs x)
      on r i hs s (m, q, is, k, hp, fp, hb, hr) = (
        (m, q, is, k, hp, fp, hb, tt),
        (
          leaves (given_of g) c (laid g m s) q,
          (laid g m s, q, k, fp, refl),
          heads_at g r (suc i + loops p + loops b) (i + suc (loops p + loops b + 0)) hs (leaves (given_of g) c (laid g m s) q) (omega arith) hr,
        ),
      )

  each_splits : (f : Counter) (b : Block) → Splits (each f b)
  each_splits f b = record {
    loops_on = λ r. omega arith;
    plain_on = λ r h. absurd h;
    heads_on = λ r i hs s h. absurd h;
  }

  instruction_splits : (to : List Lval) (o : Option BinOp) (n : List ℕ) (args : List Expr) (c : Option Expr) (at : Span) → Splits (instruction_tree to o n args c at)
  instruction_splits to None n args None at = op_splits _
  instruction_splits to None n args (Some c) at = op_splits _
  instruction_splits to (Some o) n args c at = op_splits _

  layer_splits : (x : StmtKind-F (Span → Block → Block) (Block → Block)) (at : Span) → Splits (kind_tree no_callees x at)
  layer_splits (StmtKind-F.Assign to o (rhs.Value v) c) at = op_splits _
  layer_splits (StmtKind-F.Assign to o (rhs.Call n args place) c) at = op_splits _
  layer_splits (StmtKind-F.Assign to o (rhs.Intrinsic n args place) c) at = instruction_splits to o n args c place
  layer_splits (StmtKind-F.If c a b) at = choose_splits _ _ _
  layer_splits (StmtKind-F.While p c b) at = loop_splits _ _ _ _
  layer_splits (StmtKind-F.For i from down to b) at = each_splits _ _
  layer_splits (StmtKind-F.Mark xs) at = quiet_splits _

  pub statement_splits : (s : Stmt) → Splits (statement_tree no_callees s)
  statement_splits s = subst Splits (sym (statement_is s)) (layer_splits (opened s.kind) s.span)
