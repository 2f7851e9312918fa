-- The scalars that statements set, as the code gathers them.
use Rattle.std.proofs.Common.{◌≡◌, ◌<◌, ◌≤◌, ℕ, ◌+◌, Bool, true, false, List, [], ◌∷◌, ◌++◌, map, length, take, get_or, Option, Some, None, refl, sym, ap, ◌∙◌, subst}
use Rattle.std.specs.Prelude.{◌||◌}
use Rattle.std.proofs.lemmas.Bool.{false≢true}
use Rattle.std.proofs.lemmas.List.{take_more, take_all, map-append}
use Rattle.jz_tree.specs.Span.{Span}
use Rattle.jz_tree.specs.declared.expr.Access.{Access}
use Rattle.jz_tree.specs.declared.expr.BinOp.{BinOp}
use Rattle.jz_tree.specs.declared.expr.Expr.{Expr}
use Rattle.jz_tree.specs.declared.expr.Var.{Var}
use Rattle.jz_tree.specs.declared.stmt.Lval.{Lval}
use Rattle.jz_tree.specs.declared.stmt.Lval.TheVariants as lval
use Rattle.jz_tree.specs.declared.stmt.Rhs.{Rhs}
use Rattle.jz_tree.specs.declared.stmt.Rhs.TheVariants as rhs
use Rattle.jz_tree.specs.declared.stmt.Stmt.{Stmt}
use Rattle.jz_tree.specs.declared.stmt.StmtKind.{StmtKind}
use Rattle.jz_tree.specs.declared.stmt.StmtKind.TheVariants as kind
use Rattle.jz_runs.specs.Trees.{done}
use Rattle.jz_meaning.specs.States.{Key, same_key}
use Rattle.jz_meaning.specs.Runs.{block, statement_tree, assign_tree}
use Rattle.jz_meaning.specs.Statements.{Block}
use Rattle.jz_labels.specs.Operations.{Left, left_of}
use Rattle.jz_layers.specs.Spots.{variable_key}
use Rattle.jz_drawing.specs.Drawings.{sets_left, sets_lefts, sets}
use Rattle.jz_drawn_labels.specs.Drew.{no_callees}
use Rattle.jz_drawn_heads.specs.declared.heads.Target.{Target}
use Rattle.jz_drawn_heads.specs.Pieces.{kind_piece, turn_piece, has_key, Has, Covers, CoversMore, LeftsMore, keys_of}
use Rattle.jz_drawn_heads.proofs.Forms.{statement_is, assign_is, if_is, while_is, for_is, mark_is, block_then}
use Rattle.jz_drawn_heads.proofs.LoopHeads.{keys_more}

neither : (a b : Bool) → (a || b) ≡ false → (a ≡ false) × (b ≡ false)
neither true b e = absurd (false≢true (sym e))
neither false b e = (refl, e)

nor : (a b : Bool) → a ≡ false → b ≡ false → (a || b) ≡ false
nor true b e f = absurd (false≢true (sym e))
nor false b e f = f

pub has_self : (ks : List Key) → Has ks ks
has_self ks k e = e

has_on : (a b c : List Key) → Has b a → Has c b → Has c a
has_on a b c p q k e = p k (q k e)

pub keys_pushed : (xs ys : List Target) (x : Target) → ys ≡ xs ++ x ∷ [] → keys_of ys ≡ keys_of xs ++ variable_key x.var.now ∷ []
keys_pushed xs ys x e = ap keys_of e ∙ map-append (λ (t : Target). variable_key t.var.now) xs (x ∷ [])

-- ---- left sides

one_left : (d : Lval) (e : Left) (ks : List Key) → left_of d ≡ e → ((k : Key) → sets_left k e ≡ false) → LeftsMore (d ∷ []) ks ks
one_left d e ks p f = (has_self ks, λ k h. nor (sets_left k (left_of d)) false (ap (sets_left k) p ∙ f k) refl)

pub left_skip : (d : Lval) (at : Span) (ks : List Key) → d ≡ lval.Skip at → LeftsMore (d ∷ []) ks ks
left_skip d at ks e = one_left d (left_of (lval.Skip at)) ks (ap left_of e) (λ k. refl)

pub left_cell : (d : Lval) (x : Var) (i : Expr) (ks : List Key) → d ≡ lval.Cell x i → LeftsMore (d ∷ []) ks ks
left_cell d x i ks e = one_left d (left_of (lval.Cell x i)) ks (ap left_of e) (λ k. refl)

pub left_store : (d : Lval) (a : Access) (ks : List Key) → d ≡ lval.Store a → LeftsMore (d ∷ []) ks ks
left_store d a ks e = one_left d (left_of (lval.Store a)) ks (ap left_of e) (λ k. refl)

pub left_var : (d : Lval) (x : Var) (ks ls : List Key) → d ≡ lval.Var x → ls ≡ ks ++ variable_key x ∷ [] → LeftsMore (d ∷ []) ks ls
left_var d x ks ls e h = (λ k g. (both k g).1, λ k g. nor (sets_left k (left_of d)) false (ap (λ y. sets_left k (left_of y)) e ∙ (both k g).0) refl)
  where
    both : (k : Key) → has_key ls k ≡ false → (same_key k (variable_key x) ≡ false) × (has_key ks k ≡ false)
    both k g = neither (same_key k (variable_key x)) (has_key ks k) (sym (ap (λ ms. has_key ms k) h ∙ keys_more ks (variable_key x) k) ∙ g)

pub lefts_begun : (ds : List Lval) (ks : List Key) → LeftsMore (take 0 ds) ks ks
lefts_begun [] ks = (has_self ks, λ k e. refl)
lefts_begun (d ∷ ds) ks = (has_self ks, λ k e. refl)

lefts_both : (k : Key) (ds : List Left) (d : Left) → sets_lefts k ds ≡ false → sets_lefts k (d ∷ []) ≡ false → sets_lefts k (ds ++ d ∷ []) ≡ false
lefts_both k [] d p q = q
lefts_both k (x ∷ ds) d p q = let n = neither (sets_left k x) (sets_lefts k ds) p in nor (sets_left k x) (sets_lefts k (ds ++ d ∷ [])) n.0 (lefts_both k ds d n.1 q)

pub lefts_next : (ds : List Lval) (i : ℕ) (d : Lval) (a b c : List Key) → i < length ds → d ≡ get_or ds i d → LeftsMore (take i ds) a b → LeftsMore (d ∷ []) b c → LeftsMore (take (i + 1) ds) a c
lefts_next ds i d a b c lt is p q =
    subst (λ (xs : List Lval). LeftsMore xs a c) (sym (take_more ds i d lt ∙ ap (λ y. take i ds ++ y ∷ []) (sym is))) (
      has_on a b c p.0 q.0,
      λ k e. ap (sets_lefts k) (map-append left_of (take i ds) (d ∷ [])) ∙ lefts_both k (map left_of (take i ds)) (left_of d) (p.1 k (q.0 k e)) (q.1 k e),
    )

pub lefts_done : (ds : List Lval) (i : ℕ) (a b : List Key) → length ds ≤ i → LeftsMore (take i ds) a b → LeftsMore ds a b
lefts_done ds i a b l p = subst (λ (xs : List Lval). LeftsMore xs a b) (take_all i ds l) p

-- ---- statements

covers_on : (f : Block → Block) (a b : List Key) → Has b a → Covers f a → Covers f b
covers_on f a b h c r k e g = c r k e (h k g)

pub block_begun : (ss : List Stmt) (ks : List Key) → CoversMore (block no_callees (take 0 ss)) ks ks
block_begun [] ks = (has_self ks, λ r k e g. e)
block_begun (s ∷ ss) ks = (has_self ks, λ r k e g. e)

pub block_next : (ss : List Stmt) (i : ℕ) (s : Stmt) (a b c : List Key) → i < length ss → s ≡ get_or ss i s → CoversMore (block no_callees (take i ss)) a b → CoversMore (statement_tree no_callees s) b c → CoversMore (block no_callees (take (i + 1) ss)) a c
block_next ss i s a b c lt is p q =
    subst (λ (xs : List Stmt). CoversMore (block no_callees xs) a c) (sym (take_more ss i s lt ∙ ap (λ y. take i ss ++ y ∷ []) (sym is))) (
      has_on a b c p.0 q.0,
      λ r k e g. ap (sets k) (block_then (take i ss) s r) ∙ covers_on (block no_callees (take i ss)) b c q.0 p.1 (statement_tree no_callees s r) k (q.1 r k e g) g,
    )

pub block_done : (ss : List Stmt) (i : ℕ) (a b : List Key) → length ss ≤ i → CoversMore (block no_callees (take i ss)) a b → CoversMore (block no_callees ss) a b
block_done ss i a b l p = subst (λ (xs : List Stmt). CoversMore (block no_callees xs) a b) (take_all i ss l) p

pub statement_covers : (s : Stmt) (a b : List Key) → CoversMore (kind_piece s.kind s.span) a b → CoversMore (statement_tree no_callees s) a b
statement_covers s a b p = subst (λ (f : Block → Block). CoversMore f a b) (sym (statement_is s)) p

assigned : (to : List Lval) (o : Option BinOp) (r : Rhs) (c : Option Expr) (at : Span) (a b : List Key) → LeftsMore to a b → CoversMore (assign_tree no_callees to o r c at) a b
assigned to o (rhs.Value e) c at a b p = (p.0, λ r k h g. nor (sets_lefts k (map left_of to)) (sets k r) (p.1 k g) h)
assigned to o (rhs.Call n args place) c at a b p = (p.0, λ r k h g. h)
assigned to None (rhs.Intrinsic n args place) None at a b p = (p.0, λ r k h g. nor (sets_lefts k (map left_of to)) (sets k r) (p.1 k g) h)
assigned to None (rhs.Intrinsic n args place) (Some e) at a b p = (p.0, λ r k h g. h)
assigned to (Some o) (rhs.Intrinsic n args place) c at a b p = (p.0, λ r k h g. h)

module _ (x : StmtKind) (at : Span) (a : List Key) where
  abbrev Gathered : List Key → Type 0
  Gathered b = CoversMore (kind_piece x at) a b

  pub assign_covers : (to : List Lval) (o : Option BinOp) (r : Rhs) (c : Option Expr) (b : List Key) → x ≡ kind.Assign to o r c → LeftsMore to a b → Gathered b
  assign_covers to o r c b e p = subst (λ (f : Block → Block). CoversMore f a b) (sym (assign_is x at to o r c e)) (assigned to o r c at a b p)

  pub if_covers : (c : Expr) (ss ts : List Stmt) (m b : List Key) → x ≡ kind.If c ss ts → CoversMore (block no_callees ss) a m → CoversMore (block no_callees ts) m b → Gathered b
  if_covers c ss ts m b e p q =
      subst (λ (f : Block → Block). CoversMore f a b) (sym (if_is x at c ss ts e)) (
        has_on a m b p.0 q.0,
        λ r k h g.
            nor (sets k (block no_callees ss done)) (sets k (block no_callees ts done) || sets k r) (covers_on (block no_callees ss) m b q.0 p.1 done k refl g)
            (nor (sets k (block no_callees ts done)) (sets k r) (q.1 done k refl g) h),
      )

  pub while_covers : (ss : List Stmt) (c : Expr) (t : Option (List Stmt)) (m b : List Key) → x ≡ kind.While ss c t → CoversMore (block no_callees ss) a m → CoversMore (turn_piece t) m b → Gathered b
  while_covers ss c t m b e p q =
      subst (λ (f : Block → Block). CoversMore f a b) (sym (while_is x at ss c t e)) (
        has_on a m b p.0 q.0,
        λ r k h g.
            nor (sets k (block no_callees ss done) || sets k (turn_piece t done)) (sets k r)
            (nor (sets k (block no_callees ss done)) (sets k (turn_piece t done)) (covers_on (block no_callees ss) m b q.0 p.1 done k refl g) (q.1 done k refl g)) h,
      )

  pub for_covers : (i : Var) (from : Expr) (down : Bool) (to : Expr) (b : List Stmt) → x ≡ kind.For i from down to b → Gathered a
  for_covers i from down to b e = subst (λ (f : Block → Block). CoversMore f a a) (sym (for_is x at i from down to b e)) (has_self a, λ r k h g. refl)

  pub mark_covers : (xs : List Var) → x ≡ kind.Mark xs → Gathered a
  mark_covers xs e = subst (λ (f : Block → Block). CoversMore f a a) (sym (mark_is x at xs e)) (has_self a, λ r k h g. h)

pub turn_none : (t : Option (List Stmt)) (a : List Key) → t ≡ None → CoversMore (turn_piece t) a a
turn_none t a e = subst (λ (u : Option (List Stmt)). CoversMore (turn_piece u) a a) (sym e) (has_self a, λ r k h g. h)

pub turn_some : (t : Option (List Stmt)) (ss : List Stmt) (a b : List Key) → t ≡ Some ss → CoversMore (block no_callees ss) a b → CoversMore (turn_piece t) a b
turn_some t ss a b e p = subst (λ (u : Option (List Stmt)). CoversMore (turn_piece u) a b) (sym e) p
