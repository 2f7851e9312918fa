-- The variables of each phrase are plain.
use Rattle.std.proofs.Common.{inl, inr, ℕ, zero, suc, List, [], ◌∷◌, ◌++◌, Bool, false, Option, Some, None, flat_map, sym, ap, subst, codes}
use Rattle.std.specs.Prelude.{All, is_some, option_to_list}
use Rattle.std.proofs.lemmas.List.Elements.{All-nil, All-cons, All-head, All-tail, All-append}
use Rattle.jz_tree.specs.Span.{Span}
use Rattle.jz_tree.specs.Size.{Size}
use Rattle.jz_grammar.specs.Kinds.{Kind}
use Rattle.jz_grammar.specs.Grammar.{Marked, Lang, token, ◌▸◌, ◌⊕◌, ◌⇒◌, never, opens, each, maybe}
use Rattle.jz_grammar.specs.Parts.{or_empty, joined_lists}
use Rattle.jz_tree.specs.declared.expr.BinOp.{BinOp}
use Rattle.jz_tree.specs.declared.expr.Expr.{Expr}
use Rattle.jz_tree.specs.declared.expr.Ty.{Ty}
use Rattle.jz_tree.specs.declared.expr.Access.{Access}
use Rattle.jz_tree.specs.declared.expr.Decl.{Decl}
use Rattle.jz_tree.specs.declared.expr.Var.{Var}
use Rattle.jz_tree.specs.declared.expr.Expr.TheOpen.{Var-F, Access-F}
use Rattle.jz_tree.specs.declared.expr.Expr.TheViews.{out-roll-Var, out-Access, out-roll-Access}
use Rattle.jz_tree.specs.declared.stmt.Lval.{Lval}
use Rattle.jz_tree.specs.declared.stmt.Lval.TheVariants as lval
use Rattle.jz_tree.specs.declared.stmt.Rhs.{Rhs}
use Rattle.jz_tree.specs.declared.stmt.Rhs.TheVariants as rhs
use Rattle.jz_tree.specs.declared.stmt.Stmt.{Stmt}
use Rattle.jz_tree.specs.declared.stmt.StmtKind.{StmtKind}
use Rattle.jz_tree.specs.declared.stmt.StmtKind.TheVariants as kind
use Rattle.jz_tree.specs.declared.program.Fun.{Fun}
use Rattle.jz_tree.specs.declared.program.Note.{Note}
use Rattle.jz_tree.specs.declared.program.Param.{Param}
use Rattle.jz_parse.specs.declared.function.Body.{Body}
use Rattle.jz_parse.specs.declared.function.Item.{Item}
use Rattle.jz_parse.specs.declared.function.Item.TheVariants.{Declares, Does}
use Rattle.jz_parse.specs.Operators.{ops_of, op_of, level_count}
use Rattle.jz_parse.specs.ParseExprTrees.{used_of, name_expr, access_of, chain}
use Rattle.jz_parse.specs.ParseExprTable as e
use Rattle.jz_parse.specs.Trees.{declared_of, declared_all, params_all, vars_in, stmts_in}
use Rattle.jz_parse.specs.StmtTrees.{name_lval}
use Rattle.jz_parse.specs.Table as s
use Rattle.jz_parse.specs.Table.{Low}
use Rattle.jz_parse.specs.Grammar as g
use Rattle.jz_type_names.specs.Parts.{left_exprs, left_vars, right_exprs}
use Rattle.jz_types.specs.Carried as carried
use Rattle.jz_texts.specs.Texts.{IsPlain, HasDecl}
use Rattle.jz_texts.proofs.Lists.{parted}
use Rattle.jz_texts.proofs.Variables.{of_number, of_bool, of_variable, of_cell, of_load, of_negated, of_inverted, of_cast, of_operation, PlainOne, PlainStmt, PlainKind, PlainBody, plain_body, assign_plain, if_plain, while_plain, loop_plain, for_plain, stmt_plain}

-- P holds of what each phrase stands for
abbrev Gives : {A : Type 0} → Lang A → (A → Type 0) → Type 0
Gives {A} l P = (xs : List Marked) (a : A) → l xs a → P a

abbrev AnyOf : {A : Type 0} → A → Type 0
AnyOf a = Unit {0}

anything : {A : Type 0} (l : Lang A) → Gives l AnyOf
anything l xs a h = tt

none : {A : Type 0} (P : A → Type 0) → Gives never P
none P xs a h = absurd h

two : {A B : Type 0} {l : Lang A} {m : Lang B} {P : A → Type 0} {Q : B → Type 0} → Gives l P → Gives m Q → Gives (l ▸ m) (λ p. P p.0 × Q p.1)
two L M xs p h = (L h.0 p.0 h.2, M h.1 p.1 h.3)

seen : {A B : Type 0} {l : Lang A} {P : A → Type 0} (Q : B → Type 0) (to : A → B) → ((a : A) → P a → Q (to a)) → Gives l P → Gives (l ⇒ to) Q
seen Q to so L xs b h = subst Q h.2 (so h.0 (L xs h.0 h.1))

either : {A : Type 0} {l m : Lang A} {P : A → Type 0} → Gives l P → Gives m P → Gives (l ⊕ m) P
either L M xs a (inl h) = L xs a h
either L M xs a (inr h) = M xs a h

every : {A : Type 0} {l : Lang A} (P : A → Type 0) → Gives l P → Gives (each l) (All P)
every P L xs [] h = All-nil P
every P L xs (a ∷ as') h = All-cons P a as' (L h.0 a h.2) (every P L h.1 as' h.3)

abbrev IfSome : {A : Type 0} → (A → Type 0) → Option A → Type 0
IfSome P None = Unit {0}
IfSome P (Some a) = P a

perhaps : {A : Type 0} {l : Lang A} (P : A → Type 0) → Gives l P → Gives (maybe l) (IfSome P)
perhaps P L xs o (inl h) = subst (IfSome P) h.2 (L xs h.0 h.1)
perhaps P L xs o (inr h) = subst (IfSome P) h.1 tt

within : {A : Type 0} (ks : List Kind) (inner : ℕ → Lang A) (P : A → Type 0) (d : ℕ) → ((b : ℕ) → Gives (inner b) P) → Gives (opens ks inner d) (λ p. P p.1)
within ks inner P zero L xs p h = absurd h.1
within ks inner P (suc d) L xs p h = subst (λ z. P z.1) h.2 (L d h.1.1 h.0.1 h.1.3)

or_all : {A : Type 0} (P : A → Type 0) (o : Option (List A)) → IfSome (All P) o → All P (or_empty o)
or_all P None h = All-nil P
or_all P (Some xs) h = h

joined_all : {A : Type 0} (P : A → Type 0) (xss : List (List A)) → All (All P) xss → All P (joined_lists xss)
joined_all P [] h = All-nil P
joined_all P (xs ∷ xss) h = All-append P xs (joined_lists xss) (All-head (All P) xs xss h) (joined_all P xss (All-tail (All P) xs xss h))

flat_all : {A B : Type 0} (P : B → Type 0) (f : A → List B) (xs : List A) → All (λ x. All P (f x)) xs → All P (flat_map f xs)
flat_all P f [] h = All-nil P
flat_all P f (x ∷ xs) h = All-append P (f x) (flat_map f xs) (All-head (λ x. All P (f x)) x xs h) (flat_all P f xs (All-tail (λ x. All P (f x)) x xs h))

flat_append : {A B : Type 0} (P : B → Type 0) (f : A → List B) (xs ys : List A) → All P (flat_map f xs) → All P (flat_map f ys) → All P (flat_map f (xs ++ ys))
flat_append P f [] ys h k = k
flat_append P f (x ∷ xs) ys h k =
    let t = parted P (f x) (flat_map f xs) h in All-append P (f x) (flat_map f (xs ++ ys)) t.0 (flat_append P f xs ys t.1 k)

-- ---- variables
abbrev VarLayer : Type 0
VarLayer = Var-F Expr Ty Access Decl Var

used : (n : List ℕ × Span) → IsPlain (used_of n)
used n = (ap (λ (y : VarLayer). y.copy) (out-roll-Var _), ap (λ (y : VarLayer). y.cell) (out-roll-Var _))

-- ---- expressions
abbrev PlainExpr : Expr → Type 0
PlainExpr x = All IsPlain (carried.vars_in x)

abbrev Second : Span × Expr → Type 0
Second p = PlainExpr p.1

chained : (a : Span × Expr) (ps : List (BinOp × (Span × Expr))) → Second a → All (λ p. Unit {0} × Second p.1) ps → Second (chain a ps)
chained a [] h k = h
chained a (p ∷ ps) h k =
    chained (a.0, _) ps (of_operation IsPlain p.0 a.1 p.1.1 a.0 h (All-head (λ p. Unit {0} × Second p.1) p ps k).1) (All-tail (λ p. Unit {0} × Second p.1) p ps k)

levels : (unary : Lang (Span × Expr)) (k d : ℕ) → Gives unary Second → Gives (e.levels unary k d) Second
levels unary zero d U = U
levels unary (suc k) d U =
    seen Second _ (λ p h. chained p.0 p.1 h.0 h.1)
    (two (levels unary k d U) (every (λ p. Unit {0} × Second p.1) (two (anything (token (ops_of k) d ⇒ op_of)) (levels unary k d U))))

address : (p : Span × (Option Size × Expr)) → PlainExpr p.1.1 → PlainExpr (out-Access (access_of p)).at
address p h = subst (λ (y : Access-F Expr Ty Access Decl Var). PlainExpr y.at) (sym (out-roll-Access (record { size = p.1.0; at = p.1.1; unaligned = false; span = p.0 }))) h

named : (p : (List ℕ × Span) × Option Expr) → Unit {0} × IfSome PlainExpr p.1 → Second (name_expr p)
named (n, None) h = of_variable IsPlain (used_of n) (used n)
named (n, Some i) h = of_cell IsPlain (used_of n) i (used n) h.1

module _ (low : ℕ → Lang (Span × Expr)) (L : (b : ℕ) → Gives (low b) Second) where
  inner_expr : (b : ℕ) → Gives (e.expr_at (low b) b) Second
  inner_expr b = levels (low b) level_count b (L b)

  bracket : (d : ℕ) → Gives (e.bracket low d) PlainExpr
  bracket d = seen PlainExpr _ (λ p h. h.0) (within _ _ (λ q. Second q.0 × AnyOf q.1) d (λ b. two (inner_expr b) (anything (e.the (codes "]") b))))

  abbrev At : Span × (Option Size × Expr) → Type 0
  At p = PlainExpr p.1.1

  cast_access : (d : ℕ) → Gives (e.cast_access low d) At
  cast_access d = seen At _ (λ p h. h.1) (two (anything _) (bracket d))

  plain_access : (d : ℕ) → Gives (e.plain_access low d) At
  plain_access d =
      seen At _ (λ p h. h.1.0)
      (within _ _ (λ q. AnyOf q.0 × (Second q.1.0 × AnyOf q.1.1)) d (λ b. two (anything _) (two (inner_expr b) (anything (e.the (codes "]") b)))))

  unary_of : (d : ℕ) → Gives (e.unary_of low d) Second
  unary_of d =
      either (seen Second _ (λ n h. of_number IsPlain n.0 n.1) (anything _))
      (either (seen Second _ named (two (anything (e.name d)) (perhaps PlainExpr (bracket d))))
      (either (seen Second _ (λ sp h. of_bool IsPlain _ sp) (anything (e.key (codes "true") d)))
      (either (seen Second _ (λ sp h. of_bool IsPlain _ sp) (anything (e.key (codes "false") d)))
      (either (seen Second _ (λ p h. of_negated IsPlain p.1.1 p.0 h) (within _ low Second d L))
      (either (seen Second _ (λ p h. of_inverted IsPlain p.1.1 p.0 h) (within _ low Second d L))
      (either (seen Second _ (λ p h. of_load IsPlain (access_of p) (address p h)) (plain_access d))
      (either (seen Second _ (λ p h. of_load IsPlain (access_of p) (address p h)) (cast_access d))
      (either (seen Second _ (λ p h. of_cast IsPlain p.1.0.0 p.1.0.1 p.1.1.1.1 p.0 h.1.1)
      (within _ _ (λ q. AnyOf q.0 × (AnyOf q.1.0 × Second q.1.1)) d (λ b. two (anything _) (two (anything (e.the (codes ")") b)) (L b)))))
      (seen Second _ (λ p h. h.0) (within _ _ (λ q. Second q.0 × AnyOf q.1) d (λ b. two (inner_expr b) (anything (e.the (codes ")") b)))))))))))))

unary : (d : ℕ) → Gives (e.unary d) Second
unary zero = unary_of (λ _. never) (λ b. none Second) zero
unary (suc d) = unary_of (λ _. e.unary d) (λ b. unary d) (suc d)

expr : (d : ℕ) → Gives (e.expr d) PlainExpr
expr d = seen PlainExpr _ (λ p h. h) (levels (e.unary d) level_count d (unary d))

index : (d : ℕ) → Gives (e.index d) PlainExpr
index d = bracket e.unary unary d

abbrev PlainAccess : Access → Type 0
PlainAccess a = PlainExpr (out-Access a).at

access : (d : ℕ) → Gives (e.access d) PlainAccess
access d = either (seen PlainAccess _ address (cast_access e.unary unary d)) (seen PlainAccess _ address (plain_access e.unary unary d))

-- ---- parts of statements
args : (d : ℕ) → Gives (s.args d) (All PlainExpr)
args d =
    seen (All PlainExpr) _ (λ p h. All-cons PlainExpr p.0 p.1 h.0 h.1)
    (two (expr d) (every PlainExpr (seen PlainExpr _ (λ p h. h.1) (two (anything (e.the (codes ",") d)) (expr d)))))

call_args : (d : ℕ) → Gives (s.call_args d) (All PlainExpr)
call_args d =
    seen (All PlainExpr) _ (λ p h. or_all PlainExpr p.1.0 h.0)
    (within _ _ (λ q. IfSome (All PlainExpr) q.0 × AnyOf q.1) d (λ b. two (perhaps (All PlainExpr) (args b)) (anything (e.the (codes ")") b))))

-- the variables of several expressions
abbrev PlainAll : List Expr → Type 0
PlainAll es = All IsPlain (flat_map carried.vars_in es)

abbrev PlainRhs : Rhs → Type 0
PlainRhs r = PlainAll (right_exprs r)

of_all : (es : List Expr) → All PlainExpr es → PlainAll es
of_all es h = flat_all IsPlain carried.vars_in es h

one_expr : (x : Expr) → PlainExpr x → PlainAll (x ∷ [])
one_expr x h = of_all (x ∷ []) (All-cons PlainExpr x [] h (All-nil PlainExpr))

right_hand : (d : ℕ) → Gives (s.rhs d) PlainRhs
right_hand d =
    either (seen PlainRhs rhs.Value (λ x h. one_expr x h) (expr d))
    (either (seen PlainRhs _ (λ p h. of_all p.1 h.1) (two (anything (e.name d)) (call_args d)))
    (seen PlainRhs _ (λ p h. of_all p.1.1 h.1.1) (two (anything (e.the (codes "#") d)) (two (anything (e.name d)) (call_args d)))))

abbrev PlainLval : Lval → Type 0
PlainLval l = PlainAll (left_exprs l) × All IsPlain (left_vars l)

named_left : (p : (List ℕ × Span) × Option Expr) → Unit {0} × IfSome PlainExpr p.1 → PlainLval (name_lval p)
named_left (n, None) h = (All-nil IsPlain, All-cons IsPlain (used_of n) [] (used n) (All-nil IsPlain))
named_left (n, Some i) h = (one_expr i h.1, All-cons IsPlain (used_of n) [] (used n) (All-nil IsPlain))

left : (d : ℕ) → Gives (s.lval d) PlainLval
left d =
    either (seen PlainLval lval.Skip (λ sp h. (All-nil IsPlain, All-nil IsPlain)) (anything (e.key (codes "_") d)))
    (either (seen PlainLval _ named_left (two (anything (e.name d)) (perhaps PlainExpr (index d))))
    (seen PlainLval lval.Store (λ a h. (one_expr (out-Access a).at h, All-nil IsPlain)) (access d)))

condition : (d : ℕ) → Gives (s.condition d) (IfSome PlainExpr)
condition d = perhaps PlainExpr (seen PlainExpr _ (λ p h. h.1) (two (anything (e.key (codes "if") d)) (expr d)))

-- the variables of an assignment
lefts_exprs : (to : List Lval) → All PlainLval to → PlainAll (flat_map left_exprs to)
lefts_exprs [] h = All-nil IsPlain
lefts_exprs (l ∷ to) h = flat_append IsPlain carried.vars_in (left_exprs l) (flat_map left_exprs to) (All-head PlainLval l to h).0 (lefts_exprs to (All-tail PlainLval l to h))

lefts_vars : (to : List Lval) → All PlainLval to → All IsPlain (flat_map left_vars to)
lefts_vars [] h = All-nil IsPlain
lefts_vars (l ∷ to) h = All-append IsPlain (left_vars l) (flat_map left_vars to) (All-head PlainLval l to h).1 (lefts_vars to (All-tail PlainLval l to h))

perhaps_expr : (c : Option Expr) → IfSome PlainExpr c → PlainAll (option_to_list c)
perhaps_expr None h = All-nil IsPlain
perhaps_expr (Some x) h = one_expr x h

assigned : (to : List Lval) (o : Option BinOp) (from : Rhs) (c : Option Expr) → All PlainLval to → PlainRhs from → IfSome PlainExpr c → PlainKind (kind.Assign to o from c)
assigned to o from c l r h =
    assign_plain to o from c
    (All-append IsPlain (flat_map carried.vars_in (flat_map left_exprs to ++ right_exprs from ++ option_to_list c)) (flat_map left_vars to)
    (flat_append IsPlain carried.vars_in (flat_map left_exprs to ++ right_exprs from) (option_to_list c)
    (flat_append IsPlain carried.vars_in (flat_map left_exprs to) (right_exprs from) (lefts_exprs to l) r) (perhaps_expr c h))
    (lefts_vars to l))

abbrev Kinded : Span × StmtKind → Type 0
Kinded p = PlainKind p.1

assign : (d : ℕ) → Gives (s.assign d) Kinded
assign d =
    seen Kinded _ (λ p h. assigned (p.0 ∷ p.1.0) p.1.1.0 p.1.1.1.0 p.1.1.1.1.0 (All-cons PlainLval p.0 p.1.0 h.0 h.1.0) h.1.1.1.0 h.1.1.1.1.0)
    (two (left d) (two (every PlainLval (seen PlainLval _ (λ p h. h.1) (two (anything (e.the (codes ",") d)) (left d))))
    (two (anything (s.operation d)) (two (right_hand d) (two (condition d) (anything (e.the (codes ";") d)))))))

call : (d : ℕ) → Gives (s.call d) Kinded
call d =
    seen Kinded _ (λ p h. assigned [] None (rhs.Call p.0.0 p.1.0 p.0.1) None (All-nil PlainLval) (of_all p.1.0 h.1.0) tt)
    (two (anything (e.name d)) (two (call_args d) (anything (e.the (codes ";") d))))

test : (d : ℕ) → Gives (s.test d) PlainExpr
test d = seen PlainExpr _ (λ p h. h.0) (within _ _ (λ q. PlainExpr q.0 × AnyOf q.1) d (λ b. two (expr b) (anything (e.the (codes ")") b))))

-- ---- statements
two_exprs : (a b : Expr) → PlainExpr a → PlainExpr b → PlainAll (a ∷ b ∷ [])
two_exprs a b h k = of_all (a ∷ b ∷ []) (All-cons PlainExpr a (b ∷ []) h (All-cons PlainExpr b [] k (All-nil PlainExpr)))

no_vars : (es : List Expr) → PlainAll es → All IsPlain (flat_map carried.vars_in es ++ [])
no_vars es h = All-append IsPlain (flat_map carried.vars_in es) [] h (All-nil IsPlain)

abbrev PlainIf : Expr × (List Stmt × List Stmt) → Type 0
PlainIf p = PlainExpr p.0 × (PlainBody p.1.0 × PlainBody p.1.1)

if_so : (p : Expr × (List Stmt × List Stmt)) → PlainIf p → PlainKind (kind.If p.0 p.1.0 p.1.1)
if_so p h = if_plain p.0 p.1.0 p.1.1 (no_vars (p.0 ∷ []) (one_expr p.0 h.0)) h.1.0 h.1.1

one_body : (x : Stmt) → PlainStmt x → PlainBody (x ∷ [])
one_body x h = plain_body (x ∷ []) (All-cons PlainStmt x [] h (All-nil PlainStmt))

while_so : (p : List Stmt) (c : Expr) (b : Option (List Stmt)) → PlainBody p → PlainExpr c → IfSome PlainBody b → PlainKind (kind.While p c b)
while_so p c None h k b = while_plain p c (no_vars (c ∷ []) (one_expr c k)) h
while_so p c (Some x) h k b = loop_plain p c x (no_vars (c ∷ []) (one_expr c k)) h b

for_so : (n : List ℕ × Span) (from : Expr) (down : Bool) (to : Expr) (b : List Stmt) → PlainExpr from → PlainExpr to → PlainBody b → PlainKind (kind.For (used_of n) from down to b)
for_so n from down to b h k r =
    for_plain (used_of n) from down to b
    (All-append IsPlain (flat_map carried.vars_in (from ∷ to ∷ [])) (used_of n ∷ []) (two_exprs from to h k) (All-cons IsPlain (used_of n) [] (used n) (All-nil IsPlain))) r

module _ (low : ℕ → Low) (I : (b : ℕ) → Gives (low b).ifs PlainIf) (S : (b : ℕ) → Gives (low b).stmts PlainStmt) where
  block : (d : ℕ) → Gives (s.block low d) PlainBody
  block d =
      seen PlainBody _ (λ p h. plain_body p.1.0 h.0)
      (within _ _ (λ q. All PlainStmt q.0 × AnyOf q.1) d (λ b. two (every PlainStmt (S b)) (anything (e.the (codes "}") b))))

  else_arm : (d : ℕ) → Gives (s.else_arm low d) PlainBody
  else_arm d =
      seen PlainBody _ (λ p h. h.1)
      (two (anything (e.key (codes "else") d))
      (either (seen PlainBody _ (λ p h. one_body _ (stmt_plain (record { notes = []; span = p.0; kind = kind.If p.1.0 p.1.1.0 p.1.1.1 }) (if_so p.1 h))) (within _ (λ b. (low b).ifs) PlainIf d I)) (block d)))

  if_rest : (d : ℕ) → Gives (s.if_rest low d) PlainIf
  if_rest d = seen PlainIf _ (λ p h. (h.0, (h.1.0, other p.1.1 h.1.1))) (two (expr d) (two (block d) (perhaps PlainBody (else_arm d))))
    where
      other : (o : Option (List Stmt)) → IfSome PlainBody o → PlainBody (or_empty o)
      other None h = All-nil PlainOne
      other (Some b) h = h

  if_form : (d : ℕ) → Gives (s.if_form low d) Kinded
  if_form d = seen Kinded _ (λ p h. if_so p.1 h.1) (two (anything (e.key (codes "if") d)) (if_rest d))

  body : (d : ℕ) → Gives (s.body low d) (IfSome PlainBody)
  body d = either (seen (IfSome PlainBody) _ (λ b h. h) (block d)) (seen (IfSome PlainBody) _ (λ p h. tt) (anything (maybe (e.the (codes ";") d))))

  while : (d : ℕ) → Gives (s.while low d) Kinded
  while d =
      seen Kinded _ (λ p h. while_so p.1.0 p.1.1.0 p.1.1.1 h.1.0 h.1.1.0 h.1.1.1)
      (two (anything (e.key (codes "while") d)) (two (seen PlainBody or_empty before (perhaps PlainBody (block d))) (two (test d) (body d))))
    where
      before : (o : Option (List Stmt)) → IfSome PlainBody o → PlainBody (or_empty o)
      before None h = All-nil PlainOne
      before (Some b) h = h

  for : (d : ℕ) → Gives (s.for low d) Kinded
  for d =
      seen Kinded _ (λ p h. for_so p.1.0 p.1.1.1.0 p.1.1.1.1.0 p.1.1.1.1.1.0 p.1.1.1.1.1.1 h.1.1.1.0 h.1.1.1.1.1.0 h.1.1.1.1.1.1)
      (two (anything (e.key (codes "for") d)) (two (anything (e.name d)) (two (anything (e.the (codes "=") d)) (two (expr d) (two (anything (s.direction d)) (two (expr d) (block d)))))))

  stmt_in : (d : ℕ) → Gives (s.stmt_in low d) PlainStmt
  stmt_in d =
      seen PlainStmt _ (λ p h. stmt_plain (record { notes = p.0; span = p.1.0; kind = p.1.1 }) h.1)
      (two (anything _) (either (assign d) (either (call d) (either (if_form d) (either (while d) (for d))))))

abbrev Both : Low → Type 0
Both low = Gives low.ifs PlainIf × Gives low.stmts PlainStmt

nested_in : (d : ℕ) → Both (s.nested_in d)
nested_in zero =
    (if_rest (λ _. record { ifs = never; stmts = never }) (λ b. none PlainIf) (λ b. none PlainStmt) zero, stmt_in (λ _. record { ifs = never; stmts = never }) (λ b. none PlainIf) (λ b. none PlainStmt) zero)
nested_in (suc d) = (if_rest (λ _. s.nested_in d) (λ b. (nested_in d).0) (λ b. (nested_in d).1) (suc d), stmt_in (λ _. s.nested_in d) (λ b. (nested_in d).0) (λ b. (nested_in d).1) (suc d))

stmt : (d : ℕ) → Gives (s.stmt d) PlainStmt
stmt d = (nested_in d).1

-- ---- functions
-- as it is declared
abbrev pub IsOwn : Var → Type 0
IsOwn v = IsPlain v × HasDecl v

declared : (t : Decl) (n : List ℕ × Span) → IsOwn (declared_of t n)
declared t n =
    ((ap (λ (y : VarLayer). y.copy) (out-roll-Var _), ap (λ (y : VarLayer). y.cell) (out-roll-Var _)), ap (λ (y : VarLayer). is_some y.decl) (out-roll-Var _))

all_declared : (t : Decl) (ns : List (List ℕ × Span)) → All IsOwn (declared_all t ns)
all_declared t [] = All-nil IsOwn
all_declared t (n ∷ ns) = All-cons IsOwn (declared_of t n) (declared_all t ns) (declared t n) (all_declared t ns)

abbrev pub OwnParam : Param → Type 0
OwnParam p = IsOwn p.var

params_declared : (notes : List Note) (t : Decl) (ns : List (List ℕ × Span)) → All OwnParam (params_all notes t ns)
params_declared notes t [] = All-nil OwnParam
params_declared notes t (n ∷ ns) = All-cons OwnParam _ (params_all notes t ns) (declared t n) (params_declared notes t ns)

group : (d : ℕ) → Gives (g.group d) (All OwnParam)
group d = seen (All OwnParam) _ (λ p h. params_declared p.0 p.1.0 p.1.1) (anything _)

groups : (d : ℕ) → Gives (g.groups d) (All OwnParam)
groups d =
    seen (All OwnParam) _ (λ p h. All-append OwnParam p.0 (joined_lists p.1) h.0 (joined_all OwnParam p.1 h.1))
    (two (group d) (every (All OwnParam) (seen (All OwnParam) _ (λ p h. h.1) (two (anything (e.the (codes ",") d)) (group d)))))

params : (d : ℕ) → Gives (g.params d) (All OwnParam)
params d =
    seen (All OwnParam) _ (λ p h. or_all OwnParam p.1.0 h.0)
    (within _ _ (λ q. IfSome (All OwnParam) q.0 × AnyOf q.1) d (λ b. two (perhaps (All OwnParam) (groups b)) (anything (e.the (codes ")") b))))

abbrev PlainItem : Item → Type 0
PlainItem (Declares vs) = All IsOwn vs
PlainItem (Does x) = PlainStmt x

item : (d : ℕ) → Gives (g.item d) PlainItem
item d = either (seen PlainItem Declares (λ vs h. h) decl) (seen PlainItem Does (λ x h. h) (stmt d))
  where
    decl : Gives (g.decl d) (All IsOwn)
    decl = seen (All IsOwn) _ (λ p h. all_declared p.0 p.1.0) (anything _)

items_own : (is : List Item) → All PlainItem is → All IsOwn (vars_in is)
items_own [] h = All-nil IsOwn
items_own (Declares vs ∷ is) h = All-append IsOwn vs (vars_in is) (All-head PlainItem (Declares vs) is h) (items_own is (All-tail PlainItem (Declares vs) is h))
items_own (Does x ∷ is) h = items_own is (All-tail PlainItem (Does x) is h)

items_plain : (is : List Item) → All PlainItem is → All PlainStmt (stmts_in is)
items_plain [] h = All-nil PlainStmt
items_plain (Declares vs ∷ is) h = items_plain is (All-tail PlainItem (Declares vs) is h)
items_plain (Does x ∷ is) h = All-cons PlainStmt x (stmts_in is) (All-head PlainItem (Does x) is h) (items_plain is (All-tail PlainItem (Does x) is h))

abbrev PlainItems : List Var × List Stmt → Type 0
PlainItems p = All IsOwn p.0 × PlainBody p.1

items : (d : ℕ) → Gives (g.items d) PlainItems
items d = seen PlainItems _ (λ is h. (items_own is h, plain_body (stmts_in is) (items_plain is h))) (every PlainItem (item d))

variables : (d : ℕ) → Gives (g.variables d) (All IsPlain)
variables d =
    seen (All IsPlain) _ (λ p h. All-cons IsPlain p.0 p.1 h.0 h.1) (two one (every IsPlain (seen IsPlain _ (λ p h. h.1) (two (anything (e.the (codes ",") d)) one))))
  where
    one : Gives (g.variable_used d) IsPlain
    one = seen IsPlain used_of (λ n h. used n) (anything (e.name d))

names : (d : ℕ) → Gives (g.names d) (All IsPlain)
names d =
    either (variables d)
    (seen (All IsPlain) _ (λ p h. h.0) (within _ _ (λ q. All IsPlain q.0 × AnyOf q.1) d (λ b. two (variables b) (anything (e.the (codes ")") b)))))

ending : (d : ℕ) → Gives (g.ending d) (All IsPlain)
ending d =
    seen (All IsPlain) or_empty (or_all IsPlain)
    (perhaps (All IsPlain)
    (seen (All IsPlain) _ (λ p h. or_all IsPlain p.1.0 h.1.0)
    (two (anything (e.key (codes "return") d)) (two (perhaps (All IsPlain) (names d)) (anything (e.the (codes ";") d))))))

abbrev BodyPlain : Body → Type 0
BodyPlain b = All IsOwn b.vars × (PlainBody b.stmts × All IsPlain b.result)

function_body : (d : ℕ) → Gives (g.body d) BodyPlain
function_body d =
    seen BodyPlain _ (λ p h. (h.0.0, (h.0.1, h.1.0)))
    (within _ _ (λ q. PlainItems q.0 × (All IsPlain q.1.0 × AnyOf q.1.1)) d (λ b. two (items b) (two (ending b) (anything (e.the (codes "}") b)))))

pub record FunPlain (f : Fun) : Type 0 where
  pub params : All OwnParam f.params
  pub vars : All IsOwn f.vars
  pub body : PlainBody f.body
  pub result : All IsPlain f.result

pub function : (d : ℕ) → Gives (g.function d) FunPlain
function d =
    seen FunPlain _
    (λ p h. record { params = h.1.1.1.1.0; vars = h.1.1.1.1.1.1.0; body = h.1.1.1.1.1.1.1.0; result = h.1.1.1.1.1.1.1.1 })
    (two (anything _) (two (anything (g.kind d)) (two (anything (e.key (codes "fn") d)) (two (anything (e.name d)) (two (params d) (two (anything (g.results d)) (function_body d)))))))
