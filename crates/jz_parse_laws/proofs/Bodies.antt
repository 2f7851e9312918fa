-- What holds of each statement of a body, one layer at a time.
use Rattle.std.proofs.Common.{◌≡◌, ℕ, Bool, List, [], ◌∷◌, ◌++◌, Option, Some, None, map, refl, sym, ap, subst}
use Rattle.std.specs.Prelude.{All}
use Rattle.std.proofs.lemmas.List.Elements.{All-nil, All-cons, All-head, All-tail, All-append}
use Rattle.jz_tree.specs.declared.expr.BinOp.{BinOp}
use Rattle.jz_tree.specs.declared.expr.Expr.{Expr}
use Rattle.jz_tree.specs.declared.expr.Var.{Var}
use Rattle.jz_tree.specs.declared.expr.Expr.TheViews.{out-Var}
use Rattle.jz_tree.specs.declared.stmt.Lval.{Lval}
use Rattle.jz_tree.specs.declared.stmt.Rhs.{Rhs}
use Rattle.jz_tree.specs.declared.stmt.Rhs.TheVariants as rhs
use Rattle.jz_tree.specs.declared.stmt.Stmt.{Stmt}
use Rattle.jz_tree.specs.declared.stmt.StmtKind.{StmtKind}
use Rattle.jz_tree.specs.declared.stmt.StmtKind.TheVariants as kind
use Rattle.jz_tree.specs.declared.stmt.StmtKind.TheOpen.{StmtKind-F, Stmt-F}
use Rattle.jz_tree.specs.declared.stmt.StmtKind.TheViews.{out-StmtKind, roll-StmtKind, out-roll-StmtKind}
use Rattle.jz_type_names.specs.Scopes.{Name}
use Rattle.jz_type_names.specs.Parts.{Layer, layer_of, nested_step, nested_statements, statements_in, statements_of, called_by}
use Rattle.jz_type_names.proofs.NestedLaws.{in_kind, pair, pairs, opened, in_stmt}
use Rattle.jz_types.specs.Carried.{used_by}
use Rattle.jz_parse_laws.specs.Setting.{SetsOrCalls}

module _ (N : List ℕ → Type 0) where
  -- a variable whose name has the property, and a name that has it
  abbrev pub OfVar : Var → Type 0
  OfVar v = N (out-Var v).name

  abbrev pub OfCalled : Name → Type 0
  OfCalled n = N n.0

  pub record HasOne (k : Layer) : Type 0 where
    pub used : All OfVar (used_by k)
    pub called : All OfCalled (called_by k)
    pub sets : SetsOrCalls k

  abbrev pub One : Stmt → Type 0
  One s = HasOne (layer_of s)

  abbrev pub OfStmt : Stmt → Type 0
  OfStmt s = All One (statements_in s)

  abbrev pub OfKind : StmtKind → Type 0
  OfKind k = All One (in_kind k) × HasOne (out-StmtKind k)

  abbrev pub OfBody : List Stmt → Type 0
  OfBody ss = All One (statements_of ss)

  pub of_body : (ss : List Stmt) → All OfStmt ss → OfBody ss
  of_body [] h = All-nil One
  of_body (s ∷ ss) h = All-append One (statements_in s) (statements_of ss) (All-head OfStmt s ss h) (of_body ss (All-tail OfStmt s ss h))

  same : (ss : List Stmt) → nested_statements (map pair ss) ≡ statements_of ss
  same [] = refl
  same (s ∷ ss) = ap (λ l. statements_in s ++ l) (same ss)

  nested : (ss : List Stmt) → OfBody ss → All One (nested_statements (map pair ss))
  nested ss h = subst (All One) (sym (same ss)) h

  of_kind : (x : Layer) (k : StmtKind) → roll-StmtKind x ≡ k → All One (nested_step (pairs x)) → HasOne x → OfKind k
  of_kind x k is h d = subst OfKind is (subst (All One) (sym (opened x)) h, subst HasOne (sym (out-roll-StmtKind x)) d)

  -- ---- the name that a right side calls
  abbrev pub OfCall : Rhs → Type 0
  OfCall (rhs.Value e) = Unit {0}
  OfCall (rhs.Call name args at) = N name
  OfCall (rhs.Intrinsic name args at) = Unit {0}

  calls : (to : List Lval) (o : Option BinOp) (from : Rhs) (c : Option Expr) → OfCall from → All OfCalled (called_by (StmtKind-F.Assign to o from c))
  calls to o (rhs.Value e) c h = All-nil OfCalled
  calls to o (rhs.Call name args at) c h = All-cons OfCalled (name, at) [] h (All-nil OfCalled)
  calls to o (rhs.Intrinsic name args at) c h = All-nil OfCalled

  -- ---- statements
  pub of_assign : (to : List Lval) (o : Option BinOp) (from : Rhs) (c : Option Expr) → All OfVar (used_by (StmtKind-F.Assign to o from c)) → OfCall from → SetsOrCalls (StmtKind-F.Assign to o from c)
      → OfKind (kind.Assign to o from c)
  unfolding pairs
  of_assign to o from c h k s =
      of_kind (StmtKind-F.Assign to o from c) _ (kind.rolls-Assign to o from c) (All-nil One) (record { used = h; called = calls to o from c k; sets = s })

  pub of_if : (c : Expr) (a b : List Stmt) → All OfVar (used_by (StmtKind-F.If c a b)) → OfBody a → OfBody b → OfKind (kind.If c a b)
  unfolding pairs
  of_if c a b h p q =
      of_kind (StmtKind-F.If c a b) _ (kind.rolls-If c a b)
      (All-append One (nested_statements (map pair a)) (nested_statements (map pair b)) (nested a p) (nested b q))
      (record { used = h; called = All-nil OfCalled; sets = tt })

  pub of_while : (p : List Stmt) (c : Expr) → All OfVar (used_by (StmtKind-F.While p c None)) → OfBody p → OfKind (kind.While p c None)
  unfolding pairs
  of_while p c h q = of_kind (StmtKind-F.While p c None) _ (kind.rolls-While p c None) (nested p q) (record { used = h; called = All-nil OfCalled; sets = tt })

  pub of_loop : (p : List Stmt) (c : Expr) (b : List Stmt) → All OfVar (used_by (StmtKind-F.While p c (Some b))) → OfBody p → OfBody b → OfKind (kind.While p c (Some b))
  unfolding pairs
  of_loop p c b h q r =
      of_kind (StmtKind-F.While p c (Some b)) _ (kind.rolls-While p c (Some b))
      (All-append One (nested_statements (map pair p)) (nested_statements (map pair b)) (nested p q) (nested b r))
      (record { used = h; called = All-nil OfCalled; sets = tt })

  pub of_for : (i : Var) (from : Expr) (down : Bool) (to : Expr) (b : List Stmt) → All OfVar (used_by (StmtKind-F.For i from down to b)) → OfBody b → OfKind (kind.For i from down to b)
  unfolding pairs
  of_for i from down to b h q =
      of_kind (StmtKind-F.For i from down to b) _ (kind.rolls-For i from down to b) (nested b q) (record { used = h; called = All-nil OfCalled; sets = tt })

  -- a statement of that kind
  pub of_stmt : (x : Stmt-F StmtKind Stmt) → OfKind x.kind → OfStmt (record { notes = x.notes; span = x.span; kind = x.kind })
  of_stmt x h = subst (All One) (sym (in_stmt x)) (All-cons One _ (in_kind x.kind) h.1 h.0)
