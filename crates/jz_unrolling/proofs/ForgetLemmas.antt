-- What is forgotten of what is known, name by name and piece by piece.
use Rattle.std.proofs.Common.{◌≡◌, ℕ, ◌<◌, ◌≤◌, ◌+◌, List, [], ◌∷◌, length, drop, get_or, Option, Some, None, Bool, true, false, refl, ap, sym, ◌∙◌}
use Rattle.std.specs.Prelude.{ℤ, ◌==◌, ◌&&◌, not, is_some, if◌then◌else◌}
use Rattle.std.specs.Str.{bytes_eq}
use Rattle.std.proofs.lemmas.List.{drop_more, drop_all}
use Rattle.jz_tree.specs.Span.{Span}
use Rattle.jz_tree.specs.declared.expr.BinOp.{BinOp}
use Rattle.jz_tree.specs.declared.expr.Expr.{Expr}
use Rattle.jz_tree.specs.declared.expr.Var.{Var}
use Rattle.jz_tree.specs.declared.stmt.Lval.{Lval}
use Rattle.jz_tree.specs.declared.stmt.Lval.TheVariants as lval
use Rattle.jz_tree.specs.declared.stmt.Rhs.TheVariants as rhs
use Rattle.jz_tree.specs.declared.stmt.Stmt.{Stmt}
use Rattle.jz_tree.specs.declared.stmt.StmtKind.{StmtKind}
use Rattle.jz_tree.specs.declared.stmt.StmtKind.TheVariants as kind
use Rattle.jz_tree.specs.declared.stmt.StmtKind.TheOpen.{StmtKind-F}
use Rattle.jz_tree.specs.declared.stmt.StmtKind.TheViews.{out-StmtKind, roll-out-StmtKind}
use Rattle.jz_tree.specs.declared.stmt.StmtKind.TheFolds.{fold-StmtKind, fold-roll-Stmt, fold-roll-StmtKind, map-StmtKind}
use Rattle.jz_integers.specs.Integers.{KnownNumbers}
use Rattle.jz_interp.specs.InnerParts.{body_piece}
use Rattle.jz_interp.proofs.Pieces.{assign_is, if_is, while_is, for_is, mark_is}
use Rattle.jz_meaning.specs.Trees.{done, op, quiet, choose, loop, each, call}
use Rattle.jz_meaning.specs.Statements.{Operation, assign, instruction, unset, meaningless, Block}
use Rattle.jz_meaning.specs.Runs.{instruction_tree, kind_tree, statement_tree, block}
use Rattle.jz_meaning.specs.Values.{ref_of}
use Rattle.jz_tree.specs.declared.expr.Expr.TheViews.{out-Var}
use Rattle.jz_unroll.specs.Values.{InlineNames, is_inline_var}
use Rattle.jz_unroll.specs.Unrolling.{with_number, all_unknown, KnowsLess}
use Rattle.jz_unrolling_values.specs.declared.known.Known.{Known}
use Rattle.jz_unrolling_values.specs.Numbers.{numbers_in, with_number_at, Sets, Went}
use Rattle.jz_unrolling_values.proofs.NumberLemmas.{went_none, went_then}
use Rattle.jz_unrolling_values.proofs.PartLemmas.{ref_name, ref_copy}
use Rattle.jz_unrolling.specs.Forgetting.{forgotten_left, forgotten_op, forgotten}
use Rattle.jz_unrolling.specs.Steps.{no_callees, Forgets}

-- ---- one name

one_at : (v : Var) (a b : KnownNumbers) (n : List ℕ) (c : ℕ) → a n c ≡ b n c → with_number a v None n c ≡ with_number b v None n c
one_at v a b n c h = ap (λ x. if bytes_eq (ref_of v).name n && (ref_of v).copy == c then None else x) h

pick_less : (z : Bool) (x : Option ℤ) (i : ℤ) → (if z then None else x) ≡ Some i → x ≡ Some i
pick_less true x i q = absurd cc
pick_less false x i q = q

one_less : (v : Var) (e : KnownNumbers) (n : List ℕ) (c : ℕ) (i : ℤ) → with_number e v None n c ≡ Some i → e n c ≡ Some i
one_less v e n c i q = pick_less (bytes_eq (ref_of v).name n && (ref_of v).copy == c) (e n c) i q

all_at : (vs : List Var) (a b : KnownNumbers) (n : List ℕ) (c : ℕ) → a n c ≡ b n c → all_unknown a vs n c ≡ all_unknown b vs n c
all_at [] a b n c h = h
all_at (v ∷ vs) a b n c h = all_at vs (with_number a v None) (with_number b v None) n c (one_at v a b n c h)

all_less : (vs : List Var) (e : KnownNumbers) (n : List ℕ) (c : ℕ) (i : ℤ) → all_unknown e vs n c ≡ Some i → e n c ≡ Some i
all_less [] e n c i q = q
all_less (v ∷ vs) e n c i q = one_less v e n c i (all_less vs (with_number e v None) n c i q)

chosen_at : (z : Bool) (v : Var) (a b : KnownNumbers) (n : List ℕ) (c : ℕ) → a n c ≡ b n c → (if z then with_number a v None else a) n c ≡ (if z then with_number b v None else b) n c
chosen_at true v a b n c h = one_at v a b n c h
chosen_at false v a b n c h = h

chosen_less : (z : Bool) (v : Var) (e : KnownNumbers) (n : List ℕ) (c : ℕ) (i : ℤ) → (if z then with_number e v None else e) n c ≡ Some i → e n c ≡ Some i
chosen_less true v e n c i q = one_less v e n c i q
chosen_less false v e n c i q = q

module _ (names : InlineNames) where
  left_at : (to : List Lval) (a b : KnownNumbers) (n : List ℕ) (c : ℕ) → a n c ≡ b n c → forgotten_left names to a n c ≡ forgotten_left names to b n c
  left_at [] a b n c h = h
  left_at (lval.Var v ∷ []) a b n c h = chosen_at (is_inline_var names v) v a b n c h
  left_at (lval.Var v ∷ d ∷ ds) a b n c h = h
  left_at (lval.Skip s ∷ ds) a b n c h = h
  left_at (lval.Cell v x ∷ ds) a b n c h = h
  left_at (lval.Store x ∷ ds) a b n c h = h

  left_less : (to : List Lval) (e : KnownNumbers) (n : List ℕ) (c : ℕ) (i : ℤ) → forgotten_left names to e n c ≡ Some i → e n c ≡ Some i
  left_less [] e n c i q = q
  left_less (lval.Var v ∷ []) e n c i q = chosen_less (is_inline_var names v) v e n c i q
  left_less (lval.Var v ∷ d ∷ ds) e n c i q = q
  left_less (lval.Skip s ∷ ds) e n c i q = q
  left_less (lval.Cell v x ∷ ds) e n c i q = q
  left_less (lval.Store x ∷ ds) e n c i q = q

  op_at : (o : Operation) (a b : KnownNumbers) (n : List ℕ) (c : ℕ) → a n c ≡ b n c → forgotten_op names o a n c ≡ forgotten_op names o b n c
  op_at (assign to o x d at) a b n c h = left_at to a b n c h
  op_at (instruction to m args at) a b n c h = h
  op_at (unset vs) a b n c h = all_at vs a b n c h
  op_at (meaningless at) a b n c h = h

  op_less : (o : Operation) (e : KnownNumbers) (n : List ℕ) (c : ℕ) (i : ℤ) → forgotten_op names o e n c ≡ Some i → e n c ≡ Some i
  op_less (assign to o x d at) e n c i q = left_less to e n c i q
  op_less (instruction to m args at) e n c i q = q
  op_less (unset vs) e n c i q = all_less vs e n c i q
  op_less (meaningless at) e n c i q = q

  -- whether it is forgotten goes by the name alone
  pub forgotten_at : (t : Block) (a b : KnownNumbers) (n : List ℕ) (c : ℕ) → a n c ≡ b n c → forgotten names t a n c ≡ forgotten names t b n c
  forgotten_at done a b n c h = h
  forgotten_at (op o r) a b n c h = forgotten_at r (forgotten_op names o a) (forgotten_op names o b) n c (op_at o a b n c h)
  forgotten_at (quiet o r) a b n c h = forgotten_at r (forgotten_op names o a) (forgotten_op names o b) n c (op_at o a b n c h)
  forgotten_at (choose p x y r) a b n c h =
      forgotten_at r (forgotten names y (forgotten names x a)) (forgotten names y (forgotten names x b)) n c
      (forgotten_at y (forgotten names x a) (forgotten names x b) n c (forgotten_at x a b n c h))
  forgotten_at (loop l q p x r) a b n c h =
      forgotten_at r (forgotten names x (forgotten names q a)) (forgotten names x (forgotten names q b)) n c
      (forgotten_at x (forgotten names q a) (forgotten names q b) n c (forgotten_at q a b n c h))
  forgotten_at (each f x r) a b n c h = forgotten_at r (forgotten names x a) (forgotten names x b) n c (forgotten_at x a b n c h)
  forgotten_at (call q x r) a b n c h = forgotten_at r (forgotten names x a) (forgotten names x b) n c (forgotten_at x a b n c h)

  pub forgotten_less : (t : Block) (e : KnownNumbers) → KnowsLess (forgotten names t e) e
  forgotten_less done e = λ n c i q. q
  forgotten_less (op o r) e = λ n c i q. op_less o e n c i (forgotten_less r (forgotten_op names o e) n c i q)
  forgotten_less (quiet o r) e = λ n c i q. op_less o e n c i (forgotten_less r (forgotten_op names o e) n c i q)
  forgotten_less (choose p x y r) e = λ n c i q.
      forgotten_less x e n c i (forgotten_less y (forgotten names x e) n c i (forgotten_less r (forgotten names y (forgotten names x e)) n c i q))
  forgotten_less (loop l p t x r) e = λ n c i q.
      forgotten_less p e n c i (forgotten_less x (forgotten names p e) n c i (forgotten_less r (forgotten names x (forgotten names p e)) n c i q))
  forgotten_less (each f x r) e = λ n c i q. forgotten_less x e n c i (forgotten_less r (forgotten names x e) n c i q)
  forgotten_less (call p x r) e = λ n c i q. forgotten_less x e n c i (forgotten_less r (forgotten names x e) n c i q)

  -- what is not forgotten in one place is not forgotten in another
  pub again : (t : Block) (a b : KnownNumbers) (n : List ℕ) (c : ℕ) (i : ℤ) → forgotten names t a n c ≡ Some i → b n c ≡ Some i → forgotten names t b n c ≡ Some i
  again t a b n c i q h = forgotten_at t b a n c (h ∙ sym (forgotten_less t a n c i q)) ∙ q

  pub forgotten_both : (t : Block) (a b : KnownNumbers) → KnowsLess a b → KnowsLess (forgotten names t a) (forgotten names t b)
  forgotten_both t a b less = λ n c i q. again t a b n c i q (less n c i (forgotten_less t a n c i q))

  -- ---- pieces before whatever follows

  abbrev Splits : (Block → Block) → Type 0
  Splits f = (t : Block) (e : KnownNumbers) → forgotten names (f t) e ≡ forgotten names t (forgotten names (f done) e)

  abbrev Pieces : Type 0
  Pieces = StmtKind-F (Span → Block → Block) (Block → Block)

  instruction_splits : (to : List Lval) (o : Option BinOp) (n : List ℕ) (args : List Expr) (c : Option Expr) (at : Span) → Splits (instruction_tree to o n args c at)
  instruction_splits to None n args None at t e = refl
  instruction_splits to None n args (Some c) at t e = refl
  instruction_splits to (Some o) n args c at t e = refl

  layer_splits : (x : Pieces) (at : Span) → Splits (kind_tree no_callees x at)
  layer_splits (StmtKind-F.Assign to o (rhs.Value v) c) at t e = refl
  layer_splits (StmtKind-F.Assign to o (rhs.Call n args place) c) at t e = refl
  layer_splits (StmtKind-F.Assign to o (rhs.Intrinsic n args place) c) at t e = instruction_splits to o n args c place t e
  layer_splits (StmtKind-F.If c a b) at t e = refl
  layer_splits (StmtKind-F.While p c b) at t e = refl
  layer_splits (StmtKind-F.For i from down to b) at t e = refl
  layer_splits (StmtKind-F.Mark xs) at t e = refl

  kind_piece : StmtKind → Span → Block → Block
  kind_piece = fold-StmtKind _ _ (kind_tree no_callees) (λ s. s.kind s.span)

  opened : StmtKind → Pieces
  opened k = map-StmtKind _ _ (Span → Block → Block) (Block → Block) kind_piece (statement_tree no_callees) (out-StmtKind k)

  kind_is : (k : StmtKind) → kind_piece k ≡ kind_tree no_callees (opened k)
  unfolding kind_piece opened
  kind_is k = ap kind_piece (sym (roll-out-StmtKind k)) ∙ fold-roll-StmtKind _ _ (kind_tree no_callees) (λ s. s.kind s.span) (out-StmtKind k)

  statement_is : (s : Stmt) → statement_tree no_callees s ≡ kind_tree no_callees (opened s.kind) s.span
  unfolding kind_piece
  statement_is s = fold-roll-Stmt _ _ (kind_tree no_callees) (λ s. s.kind s.span) (record { notes = s.notes; span = s.span; kind = s.kind }) ∙ ap (λ f. f s.span) (kind_is s.kind)

  pub statement_splits : (s : Stmt) (t : Block) (e : KnownNumbers) → forgotten names (statement_tree no_callees s t) e ≡ forgotten names t (forgotten names (statement_tree no_callees s done) e)
  statement_splits s t e =
      ap (λ f. forgotten names (f t) e) (statement_is s) ∙ layer_splits (opened s.kind) s.span t e
      ∙ ap (λ f. forgotten names t (forgotten names (f done) e)) (sym (statement_is s))

  pub block_splits : (ss : List Stmt) (t : Block) (e : KnownNumbers) → forgotten names (block no_callees ss t) e ≡ forgotten names t (forgotten names (block no_callees ss done) e)
  block_splits [] t e = refl
  block_splits (s ∷ ss) t e =
      statement_splits s (block no_callees ss t) e
      ∙ block_splits ss t (forgotten names (statement_tree no_callees s done) e)
      ∙ ap (forgotten names t) (sym (statement_splits s (block no_callees ss done) e))

  -- ---- the code

  -- statements from the one at i on
  abbrev pub left_to_forget : List Stmt → ℕ → KnownNumbers → KnownNumbers
  left_to_forget ss i e = forgotten names (block no_callees (drop i ss) done) e

  pub forgets_next : (ss : List Stmt) (i : ℕ) (s : Stmt) (a b : Known) → i < length ss → s ≡ get_or ss i s → Forgets names (statement_tree no_callees s) a b → left_to_forget ss (i + 1) (numbers_in b) ≡ left_to_forget ss i (numbers_in a)
  forgets_next ss i s a b lt is h =
      ap (left_to_forget ss (i + 1)) h.numbers
      ∙ sym (statement_splits s (block no_callees (drop (i + 1) ss) done) (numbers_in a))
      ∙ ap (λ l. forgotten names (block no_callees l done) (numbers_in a)) (sym (drop_more ss i s lt ∙ ap (λ y. y ∷ drop (i + 1) ss) (sym is)))

  pub no_target : (to : List Lval) (e : KnownNumbers) → ((v : Var) → to ≡ lval.Var v ∷ [] → is_inline_var names v ≡ false) → e ≡ forgotten_left names to e
  no_target [] e fails = refl
  no_target (lval.Var v ∷ []) e fails = sym (ap (λ z. if z then with_number e v None else e) (fails v refl))
  no_target (lval.Var v ∷ d ∷ ds) e fails = refl
  no_target (lval.Skip s ∷ ds) e fails = refl
  no_target (lval.Cell v x ∷ ds) e fails = refl
  no_target (lval.Store x ∷ ds) e fails = refl

  pub one_target : (to : List Lval) (v : Var) (old new : Known) → to ≡ lval.Var v ∷ [] → is_inline_var names v ≡ true → Sets old new (out-Var v).name (out-Var v).copy None → numbers_in new ≡ forgotten_left names to (numbers_in old)
  one_target to v old new is inline h =
      h.numbers ∙ ap (λ y. with_number_at (numbers_in old) y (out-Var v).copy None) (sym (ref_name v)) ∙ ap (λ y. with_number_at (numbers_in old) (ref_of v).name y None) (sym (ref_copy v))
      ∙ sym (ap (λ z. if z then with_number (numbers_in old) v None else numbers_in old) inline)
      ∙ ap (λ l. forgotten_left names l (numbers_in old)) (sym is)

  pub all_forgotten : (ss : List Stmt) (i : ℕ) (a b : Known) → length ss ≤ i → left_to_forget ss i (numbers_in b) ≡ left_to_forget ss 0 (numbers_in a) → Went a b → Forgets names (block no_callees ss) a b
  all_forgotten ss i a b le h w = record {
    numbers = sym (ap (λ l. forgotten names (block no_callees l done) (numbers_in b)) (drop_all i ss le)) ∙ h;
    went = w;
  }

  -- ---- single statements

  forgets_as : (s : Stmt) (f : Block → Block) (a b : Known) → statement_tree no_callees s ≡ f → numbers_in b ≡ forgotten names (f done) (numbers_in a) → Went a b → Forgets names (statement_tree no_callees s) a b
  forgets_as s f a b is h w = record { numbers = h ∙ sym (ap (λ p. forgotten names (p done) (numbers_in a)) is); went = w }

  pub value_forgets : (s : Stmt) (to : List Lval) (o : Option BinOp) (x : Expr) (c : Option Expr) (a b : Known) → s.kind ≡ kind.Assign to o (rhs.Value x) c → numbers_in b ≡ forgotten_left names to (numbers_in a) → Went a b → Forgets names (statement_tree no_callees s) a b
  value_forgets s to o x c a b is h w = forgets_as s (op (assign to o x c s.span)) a b (assign_is no_callees s to o (rhs.Value x) c is) h w

  pub call_forgets : (s : Stmt) (to : List Lval) (o : Option BinOp) (n : List ℕ) (args : List Expr) (at : Span) (c : Option Expr) (k : Known) → s.kind ≡ kind.Assign to o (rhs.Call n args at) c → Forgets names (statement_tree no_callees s) k k
  call_forgets s to o n args at c k is = forgets_as s (op (meaningless at)) k k (assign_is no_callees s to o (rhs.Call n args at) c is) refl (went_none k)

  same_instruction : (to : List Lval) (o : Option BinOp) (n : List ℕ) (args : List Expr) (c : Option Expr) (at : Span) (e : KnownNumbers) → e ≡ forgotten names (instruction_tree to o n args c at done) e
  same_instruction to None n args None at e = refl
  same_instruction to None n args (Some c) at e = refl
  same_instruction to (Some o) n args c at e = refl

  pub instruction_forgets : (s : Stmt) (to : List Lval) (o : Option BinOp) (n : List ℕ) (args : List Expr) (at : Span) (c : Option Expr) (k : Known) → s.kind ≡ kind.Assign to o (rhs.Intrinsic n args at) c → Forgets names (statement_tree no_callees s) k k
  instruction_forgets s to o n args at c k is =
      forgets_as s (instruction_tree to o n args c at) k k (assign_is no_callees s to o (rhs.Intrinsic n args at) c is) (same_instruction to o n args c at (numbers_in k)) (went_none k)

  pub if_forgets : (s : Stmt) (c : Expr) (holds other : List Stmt) (k k1 k2 : Known) → s.kind ≡ kind.If c holds other → Forgets names (block no_callees holds) k k1 → Forgets names (block no_callees other) k1 k2 → Forgets names (statement_tree no_callees s) k k2
  if_forgets s c holds other k k1 k2 is p q =
      forgets_as s (choose (record { cond = c; at = s.span }) (block no_callees holds done) (block no_callees other done)) k k2 (if_is no_callees s c holds other is)
      (q.numbers ∙ ap (forgotten names (block no_callees other done)) p.numbers) (went_then k k1 k2 p.went q.went)

  pub while_forgets : (s : Stmt) (q1 : List Stmt) (c : Expr) (body : Option (List Stmt)) (k k1 k2 : Known) → s.kind ≡ kind.While q1 c body → Forgets names (block no_callees q1) k k1 → Forgets names (body_piece no_callees body) k1 k2 → Forgets names (statement_tree no_callees s) k k2
  while_forgets s q1 c body k k1 k2 is p q =
      forgets_as s (loop (not (is_some body)) (block no_callees q1 done) (record { cond = c; at = s.span }) (body_piece no_callees body done)) k k2 (while_is no_callees s q1 c body is)
      (q.numbers ∙ ap (forgotten names (body_piece no_callees body done)) p.numbers) (went_then k k1 k2 p.went q.went)

  pub for_forgets : (s : Stmt) (i : Var) (from : Expr) (down : Bool) (to : Expr) (body : List Stmt) (k k1 : Known) → s.kind ≡ kind.For i from down to body → Forgets names (block no_callees body) k k1 → Forgets names (statement_tree no_callees s) k k1
  for_forgets s i from down to body k k1 is p =
      forgets_as s (each (record { counter = i; from = from; down = down; to = to; at = s.span }) (block no_callees body done)) k k1 (for_is no_callees s i from down to body is) p.numbers p.went

  pub mark_forgets : (s : Stmt) (vs : List Var) (k k1 : Known) → s.kind ≡ kind.Mark vs → numbers_in k1 ≡ all_unknown (numbers_in k) vs → Went k k1 → Forgets names (statement_tree no_callees s) k k1
  mark_forgets s vs k k1 is h w = forgets_as s (quiet (unset vs)) k k1 (mark_is no_callees s vs is) h w
