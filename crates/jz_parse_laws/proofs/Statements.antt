-- The names in each statement, and what it sets.
use Rattle.std.proofs.Common.{ℕ, zero, suc, List, [], ◌∷◌, ◌++◌, Bool, Option, Some, None, flat_map, refl, codes}
use Rattle.std.specs.Prelude.{All, option_to_list}
use Rattle.std.proofs.lemmas.List.Elements.{All-nil, All-cons, All-head, All-tail, All-append}
use Rattle.jz_tree.specs.Span.{Span}
use Rattle.jz_grammar.specs.Grammar.{Lang, never, maybe}
use Rattle.jz_grammar.specs.Parts.{or_empty}
use Rattle.jz_tree.specs.declared.expr.BinOp.{BinOp}
use Rattle.jz_tree.specs.declared.expr.Expr.{Expr}
use Rattle.jz_tree.specs.declared.expr.Var.{Var}
use Rattle.jz_tree.specs.declared.expr.Expr.TheViews.{out-Access}
use Rattle.jz_tree.specs.declared.stmt.Lval.{Lval}
use Rattle.jz_tree.specs.declared.stmt.Lval.TheVariants as lval
use Rattle.jz_tree.specs.declared.stmt.Rhs.{Rhs}
use Rattle.jz_tree.specs.declared.stmt.Rhs.TheVariants as rhs
use Rattle.jz_tree.specs.declared.stmt.Stmt.{Stmt}
use Rattle.jz_tree.specs.declared.stmt.StmtKind.{StmtKind}
use Rattle.jz_tree.specs.declared.stmt.StmtKind.TheVariants as kind
use Rattle.jz_tree.specs.declared.stmt.StmtKind.TheOpen.{StmtKind-F}
use Rattle.jz_parse_expr.specs.Trees.{used_of}
use Rattle.jz_parse_expr.specs.Table as e
use Rattle.jz_parse.specs.StmtTrees.{name_lval}
use Rattle.jz_parse.specs.Table as s
use Rattle.jz_parse.specs.Table.{Low}
use Rattle.jz_type_names.specs.Parts.{left_exprs, left_vars, right_exprs}
use Rattle.jz_types.specs.Carried as carried
use Rattle.jz_texts.proofs.Lists.{parted}
use Rattle.jz_parse_laws.specs.Setting.{SetsOrCalls}
use Rattle.jz_parse_laws.proofs.Phrases.{IfSome, AnyOf, or_all, Gives, anything, none, two, seen, either, every, perhaps, within, name}
use Rattle.jz_parse_laws.proofs.Bodies.{OfVar, One, OfStmt, OfKind, OfBody, of_body, OfCall, of_assign, of_if, of_while, of_loop, of_for, of_stmt}
use Rattle.jz_parse_laws.proofs.Expressions.{used, OfExpr, expr, index, access}

flat_all : {A B : Type 0} (P : B → Type 0) (f : A → List B) (xs : List A) → All (λ x. All P (f x)) xs → All P (flat_map f xs)
flat_all P f [] h = All-nil P
flat_all P f (x ∷ xs) h = All-append P (f x) (flat_map f xs) (All-head (λ x. All P (f x)) x xs h) (flat_all P f xs (All-tail (λ x. All P (f x)) x xs h))

flat_append : {A B : Type 0} (P : B → Type 0) (f : A → List B) (xs ys : List A) → All P (flat_map f xs) → All P (flat_map f ys) → All P (flat_map f (xs ++ ys))
flat_append P f [] ys h k = k
flat_append P f (x ∷ xs) ys h k =
    let t = parted P (f x) (flat_map f xs) h in All-append P (f x) (flat_map f (xs ++ ys)) t.0 (flat_append P f xs ys t.1 k)

module _ (N : List ℕ → Type 0) where
  abbrev V : Var → Type 0
  V = OfVar N

  abbrev E : Expr → Type 0
  E = OfExpr N

  abbrev G : {A : Type 0} → Lang A → (A → Type 0) → Type 0
  G = Gives N

  abbrev B : List Stmt → Type 0
  B = OfBody N

  -- ---- parts of statements
  args : (d : ℕ) → G (s.args d) (All E)
  args d =
      seen N (All E) _ (λ p h. All-cons E p.0 p.1 h.0 h.1)
      (two N (expr N d) (every N E (seen N E _ (λ p h. h.1) (two N (anything N (e.the (codes ",") d)) (expr N d)))))

  call_args : (d : ℕ) → G (s.call_args d) (All E)
  call_args d =
      seen N (All E) _ (λ p h. or_all E p.1.0 h.0)
      (within N _ _ (λ q. IfSome (All E) q.0 × AnyOf q.1) d (λ b. two N (perhaps N (All E) (args b)) (anything N (e.the (codes ")") b))))

  -- the variables of several expressions
  abbrev OfAll : List Expr → Type 0
  OfAll es = All V (flat_map carried.vars_in es)

  of_all : (es : List Expr) → All E es → OfAll es
  of_all es h = flat_all V carried.vars_in es h

  one_expr : (x : Expr) → E x → OfAll (x ∷ [])
  one_expr x h = of_all (x ∷ []) (All-cons E x [] h (All-nil E))

  abbrev OfRhs : Rhs → Type 0
  OfRhs r = OfAll (right_exprs r) × OfCall N r

  right_hand : (d : ℕ) → G (s.rhs d) OfRhs
  right_hand d =
      either N (seen N OfRhs rhs.Value (λ x h. (one_expr x h, tt)) (expr N d))
      (either N (seen N OfRhs _ (λ p h. (of_all p.1 h.1, h.0)) (two N (name N d) (call_args d)))
      (seen N OfRhs _ (λ p h. (of_all p.1.1 h.1.1, tt)) (two N (anything N (e.the (codes "#") d)) (two N (anything N (e.name d)) (call_args d)))))

  abbrev OfLval : Lval → Type 0
  OfLval l = OfAll (left_exprs l) × All V (left_vars l)

  named_left : (p : (List ℕ × Span) × Option Expr) → N p.0.0 × IfSome E p.1 → OfLval (name_lval p)
  named_left (n, None) h = (All-nil V, All-cons V (used_of n) [] (used N n h.0) (All-nil V))
  named_left (n, Some i) h = (one_expr i h.1, All-cons V (used_of n) [] (used N n h.0) (All-nil V))

  left : (d : ℕ) → G (s.lval d) OfLval
  left d =
      either N (seen N OfLval lval.Skip (λ sp h. (All-nil V, All-nil V)) (anything N (e.key (codes "_") d)))
      (either N (seen N OfLval _ named_left (two N (name N d) (perhaps N E (index N d))))
      (seen N OfLval lval.Store (λ a h. (one_expr (out-Access a).at h, All-nil V)) (access N d)))

  condition : (d : ℕ) → G (s.condition d) (IfSome E)
  condition d = perhaps N E (seen N E _ (λ p h. h.1) (two N (anything N (e.key (codes "if") d)) (expr N d)))

  -- the variables of an assignment
  lefts_exprs : (to : List Lval) → All OfLval to → OfAll (flat_map left_exprs to)
  lefts_exprs [] h = All-nil V
  lefts_exprs (l ∷ to) h = flat_append V carried.vars_in (left_exprs l) (flat_map left_exprs to) (All-head OfLval l to h).0 (lefts_exprs to (All-tail OfLval l to h))

  lefts_vars : (to : List Lval) → All OfLval to → All V (flat_map left_vars to)
  lefts_vars [] h = All-nil V
  lefts_vars (l ∷ to) h = All-append V (left_vars l) (flat_map left_vars to) (All-head OfLval l to h).1 (lefts_vars to (All-tail OfLval l to h))

  perhaps_expr : (c : Option Expr) → IfSome E c → OfAll (option_to_list c)
  perhaps_expr None h = All-nil V
  perhaps_expr (Some x) h = one_expr x h

  assigned : (to : List Lval) (o : Option BinOp) (from : Rhs) (c : Option Expr) → All OfLval to → OfRhs from → IfSome E c → SetsOrCalls (StmtKind-F.Assign to o from c) → OfKind N (kind.Assign to o from c)
  assigned to o from c l r h sets =
      of_assign N to o from c
      (All-append V (flat_map carried.vars_in (flat_map left_exprs to ++ right_exprs from ++ option_to_list c)) (flat_map left_vars to)
      (flat_append V carried.vars_in (flat_map left_exprs to ++ right_exprs from) (option_to_list c)
      (flat_append V carried.vars_in (flat_map left_exprs to) (right_exprs from) (lefts_exprs to l) r.0) (perhaps_expr c h))
      (lefts_vars to l))
      r.1 sets

  abbrev Kinded : Span × StmtKind → Type 0
  Kinded p = OfKind N p.1

  assign : (d : ℕ) → G (s.assign d) Kinded
  assign d =
      seen N Kinded _ (λ p h. assigned (p.0 ∷ p.1.0) p.1.1.0 p.1.1.1.0 p.1.1.1.1.0 (All-cons OfLval p.0 p.1.0 h.0 h.1.0) h.1.1.1.0 h.1.1.1.1.0 tt)
      (two N (left d) (two N (every N OfLval (seen N OfLval _ (λ p h. h.1) (two N (anything N (e.the (codes ",") d)) (left d))))
      (two N (anything N (s.operation d)) (two N (right_hand d) (two N (condition d) (anything N (e.the (codes ";") d)))))))

  call : (d : ℕ) → G (s.call d) Kinded
  call d =
      seen N Kinded _ (λ p h. assigned [] None (rhs.Call p.0.0 p.1.0 p.0.1) None (All-nil OfLval) (of_all p.1.0 h.1.0, h.0) tt (refl, tt, refl))
      (two N (name N d) (two N (call_args d) (anything N (e.the (codes ";") d))))

  test : (d : ℕ) → G (s.test d) E
  test d = seen N E _ (λ p h. h.0) (within N _ _ (λ q. E q.0 × AnyOf q.1) d (λ b. two N (expr N b) (anything N (e.the (codes ")") b))))

  -- ---- statements
  two_exprs : (a b : Expr) → E a → E b → OfAll (a ∷ b ∷ [])
  two_exprs a b h k = of_all (a ∷ b ∷ []) (All-cons E a (b ∷ []) h (All-cons E b [] k (All-nil E)))

  no_vars : (es : List Expr) → OfAll es → All V (flat_map carried.vars_in es ++ [])
  no_vars es h = All-append V (flat_map carried.vars_in es) [] h (All-nil V)

  abbrev OfIf : Expr × (List Stmt × List Stmt) → Type 0
  OfIf p = E p.0 × (B p.1.0 × B p.1.1)

  if_so : (p : Expr × (List Stmt × List Stmt)) → OfIf p → OfKind N (kind.If p.0 p.1.0 p.1.1)
  if_so p h = of_if N p.0 p.1.0 p.1.1 (no_vars (p.0 ∷ []) (one_expr p.0 h.0)) h.1.0 h.1.1

  one_body : (x : Stmt) → OfStmt N x → B (x ∷ [])
  one_body x h = of_body N (x ∷ []) (All-cons (OfStmt N) x [] h (All-nil (OfStmt N)))

  while_so : (p : List Stmt) (c : Expr) (b : Option (List Stmt)) → B p → E c → IfSome B b → OfKind N (kind.While p c b)
  while_so p c None h k b = of_while N p c (no_vars (c ∷ []) (one_expr c k)) h
  while_so p c (Some x) h k b = of_loop N p c x (no_vars (c ∷ []) (one_expr c k)) h b

  for_so : (n : List ℕ × Span) (from : Expr) (down : Bool) (to : Expr) (b : List Stmt) → N n.0 → E from → E to → B b → OfKind N (kind.For (used_of n) from down to b)
  for_so n from down to b i h k r =
      of_for N (used_of n) from down to b
      (All-append V (flat_map carried.vars_in (from ∷ to ∷ [])) (used_of n ∷ []) (two_exprs from to h k) (All-cons V (used_of n) [] (used N n i) (All-nil V))) r

  module _ (low : ℕ → Low) (I : (b : ℕ) → G (low b).ifs OfIf) (S : (b : ℕ) → G (low b).stmts (OfStmt N)) where
    block : (d : ℕ) → G (s.block low d) B
    block d =
        seen N B _ (λ p h. of_body N p.1.0 h.0)
        (within N _ _ (λ q. All (OfStmt N) q.0 × AnyOf q.1) d (λ b. two N (every N (OfStmt N) (S b)) (anything N (e.the (codes "}") b))))

    else_arm : (d : ℕ) → G (s.else_arm low d) B
    else_arm d =
        seen N B _ (λ p h. h.1)
        (two N (anything N (e.key (codes "else") d))
        (either N (seen N B _ (λ p h. one_body _ (of_stmt N (record { notes = []; span = p.0; kind = kind.If p.1.0 p.1.1.0 p.1.1.1 }) (if_so p.1 h))) (within N _ (λ b. (low b).ifs) OfIf d I)) (block d)))

    if_rest : (d : ℕ) → G (s.if_rest low d) OfIf
    if_rest d = seen N OfIf _ (λ p h. (h.0, (h.1.0, other p.1.1 h.1.1))) (two N (expr N d) (two N (block d) (perhaps N B (else_arm d))))
      where
        other : (o : Option (List Stmt)) → IfSome B o → B (or_empty o)
        other None h = All-nil (One N)
        other (Some b) h = h

    if_form : (d : ℕ) → G (s.if_form low d) Kinded
    if_form d = seen N Kinded _ (λ p h. if_so p.1 h.1) (two N (anything N (e.key (codes "if") d)) (if_rest d))

    body : (d : ℕ) → G (s.body low d) (IfSome B)
    body d = either N (seen N (IfSome B) _ (λ b h. h) (block d)) (seen N (IfSome B) _ (λ p h. tt) (anything N (maybe (e.the (codes ";") d))))

    while : (d : ℕ) → G (s.while low d) Kinded
    while d =
        seen N Kinded _ (λ p h. while_so p.1.0 p.1.1.0 p.1.1.1 h.1.0 h.1.1.0 h.1.1.1)
        (two N (anything N (e.key (codes "while") d)) (two N (seen N B or_empty before (perhaps N B (block d))) (two N (test d) (body d))))
      where
        before : (o : Option (List Stmt)) → IfSome B o → B (or_empty o)
        before None h = All-nil (One N)
        before (Some b) h = h

    for : (d : ℕ) → G (s.for low d) Kinded
    for d =
        seen N Kinded _ (λ p h. for_so p.1.0 p.1.1.1.0 p.1.1.1.1.0 p.1.1.1.1.1.0 p.1.1.1.1.1.1 h.1.0 h.1.1.1.0 h.1.1.1.1.1.0 h.1.1.1.1.1.1)
        (two N (anything N (e.key (codes "for") d)) (two N (name N d) (two N (anything N (e.the (codes "=") d)) (two N (expr N d) (two N (anything N (s.direction d)) (two N (expr N d) (block d)))))))

    stmt_in : (d : ℕ) → G (s.stmt_in low d) (OfStmt N)
    stmt_in d =
        seen N (OfStmt N) _ (λ p h. of_stmt N (record { notes = p.0; span = p.1.0; kind = p.1.1 }) h.1)
        (two N (anything N _) (either N (assign d) (either N (call d) (either N (if_form d) (either N (while d) (for d))))))

  abbrev Both : Low → Type 0
  Both low = G low.ifs OfIf × G low.stmts (OfStmt N)

  nested_in : (d : ℕ) → Both (s.nested_in d)
  nested_in zero =
      (if_rest (λ _. record { ifs = never; stmts = never }) (λ b. none N OfIf) (λ b. none N (OfStmt N)) zero, stmt_in (λ _. record { ifs = never; stmts = never }) (λ b. none N OfIf) (λ b. none N (OfStmt N)) zero)
  nested_in (suc d) = (if_rest (λ _. s.nested_in d) (λ b. (nested_in d).0) (λ b. (nested_in d).1) (suc d), stmt_in (λ _. s.nested_in d) (λ b. (nested_in d).0) (λ b. (nested_in d).1) (suc d))

  pub stmt : (d : ℕ) → G (s.stmt d) (OfStmt N)
  stmt d = (nested_in d).1
