-- The variables of expressions and statements, one layer at a time.
use Rattle.std.proofs.Common.{◌≡◌, Bool, ℤ, List, [], ◌∷◌, ◌++◌, Option, Some, None, map, refl, sym, ap, ◌∙◌, subst}
use Rattle.std.specs.Prelude.{All}
use Rattle.std.proofs.lemmas.List.Elements.{All-nil, All-cons, All-head, All-tail, All-append}
use Rattle.jz_tree.specs.Span.{Span}
use Rattle.jz_tree.specs.Size.{Size}
use Rattle.jz_tree.specs.declared.expr.BinOp.{BinOp}
use Rattle.jz_tree.specs.declared.expr.Expr.{Expr}
use Rattle.jz_tree.specs.declared.expr.Expr.TheVariants as expr
use Rattle.jz_tree.specs.declared.expr.Ty.{Ty}
use Rattle.jz_tree.specs.declared.expr.Access.{Access}
use Rattle.jz_tree.specs.declared.expr.Decl.{Decl}
use Rattle.jz_tree.specs.declared.expr.Var.{Var}
use Rattle.jz_tree.specs.declared.expr.Expr.TheOpen.{Expr-F}
use Rattle.jz_tree.specs.declared.expr.Expr.TheViews.{out-Access, roll-Expr, roll-out-Access}
use Rattle.jz_tree.specs.declared.expr.Expr.TheFolds.{map-Expr, para-roll-Expr, para-Access, para-roll-Access}
use Rattle.jz_tree.specs.declared.stmt.Lval.{Lval}
use Rattle.jz_tree.specs.declared.stmt.Rhs.{Rhs}
use Rattle.jz_tree.specs.declared.stmt.Stmt.{Stmt}
use Rattle.jz_tree.specs.declared.stmt.StmtKind.{StmtKind}
use Rattle.jz_tree.specs.declared.stmt.StmtKind.TheVariants as kind
use Rattle.jz_tree.specs.declared.stmt.StmtKind.TheOpen.{StmtKind-F, Stmt-F}
use Rattle.jz_tree.specs.declared.stmt.StmtKind.TheViews.{out-StmtKind, roll-StmtKind, out-roll-StmtKind}
use Rattle.jz_type_names.specs.Parts.{Layer, layer_of, nested_step, nested_statements, statements_in, statements_of}
use Rattle.jz_type_names.proofs.NestedLaws.{in_kind, pair, pairs, opened, in_stmt}
use Rattle.jz_types.specs.Carried.{vars_step, vars_in, used_by}
use Rattle.jz_texts.specs.Texts.{IsPlain, IsUnmarked}

abbrev pub ExprLayer : Type 0
ExprLayer = Expr-F Expr Ty Access Decl Var

-- ---- expressions
vars_at : Access → List Var
vars_at = para-Access (List Var) (Unit {0}) (List Var) (Unit {0}) (Unit {0}) vars_step (λ t. tt) (λ a. a.at.1) (λ d. tt) (λ v. tt)

access_vars : (a : Access) → vars_at a ≡ vars_in (out-Access a).at
unfolding vars_at
access_vars a = ap vars_at (sym (roll-out-Access a)) ∙ para-roll-Access (List Var) (Unit {0}) (List Var) (Unit {0}) (Unit {0}) vars_step (λ t. tt) (λ a. a.at.1) (λ d. tt) (λ v. tt) (out-Access a)

unfoldable pub layer_vars : ExprLayer → List Var
layer_vars (Expr-F.Num n at) = []
layer_vars (Expr-F.Expr::Bool b at) = []
layer_vars (Expr-F.Var v) = v ∷ []
layer_vars (Expr-F.Cell v i) = v ∷ vars_in i
layer_vars (Expr-F.Load a) = vars_in (out-Access a).at
layer_vars (Expr-F.Neg a at) = vars_in a
layer_vars (Expr-F.Not a at) = vars_in a
layer_vars (Expr-F.Cast z s a at) = vars_in a
layer_vars (Expr-F.Bin o a b at) = vars_in a ++ vars_in b

abbrev paired : ExprLayer → Expr-F (Expr × List Var) (Ty × Unit {0}) (Access × List Var) (Decl × Unit {0}) (Var × Unit {0})
paired x = map-Expr _ _ _ _ _ _ _ _ _ _ (λ y. (y, vars_in y)) (λ y. (y, tt)) (λ y. (y, vars_at y)) (λ y. (y, tt)) (λ y. (y, tt)) x

rolled : (x : ExprLayer) → vars_in (roll-Expr x) ≡ vars_step (paired x)
unfolding vars_at
rolled x = para-roll-Expr (List Var) (Unit {0}) (List Var) (Unit {0}) (Unit {0}) vars_step (λ t. tt) (λ a. a.at.1) (λ d. tt) (λ v. tt) x

pub vars_rolled : (x : ExprLayer) → vars_in (roll-Expr x) ≡ layer_vars x
unfolding layer_vars
vars_rolled (Expr-F.Num n at) = rolled (Expr-F.Num n at)
vars_rolled (Expr-F.Expr::Bool b at) = rolled (Expr-F.Expr::Bool b at)
vars_rolled (Expr-F.Var v) = rolled (Expr-F.Var v)
vars_rolled (Expr-F.Cell v i) = rolled (Expr-F.Cell v i)
vars_rolled (Expr-F.Load a) = rolled (Expr-F.Load a) ∙ access_vars a
vars_rolled (Expr-F.Neg a at) = rolled (Expr-F.Neg a at)
vars_rolled (Expr-F.Not a at) = rolled (Expr-F.Not a at)
vars_rolled (Expr-F.Cast z s a at) = rolled (Expr-F.Cast z s a at)
vars_rolled (Expr-F.Bin o a b at) = rolled (Expr-F.Bin o a b at)

-- ---- what holds of the variables of each form
module _ (P : Var → Type 0) where
  abbrev pub Of : Expr → Type 0
  Of e = All P (vars_in e)

  at_layer : (x : ExprLayer) (e : Expr) → roll-Expr x ≡ e → All P (layer_vars x) → Of e
  at_layer x e is h = subst Of is (subst (All P) (sym (vars_rolled x)) h)

  pub of_number : (n : ℤ) (at : Span) → Of (expr.Num n at)
  unfolding layer_vars
  of_number n at = at_layer (Expr-F.Num n at) _ (expr.rolls-Num n at) (All-nil P)

  pub of_bool : (b : Bool) (at : Span) → Of (expr.Bool b at)
  unfolding layer_vars
  of_bool b at = at_layer (Expr-F.Expr::Bool b at) _ (expr.rolls-Bool b at) (All-nil P)

  pub of_variable : (v : Var) → P v → Of (expr.Var v)
  unfolding layer_vars
  of_variable v h = at_layer (Expr-F.Var v) _ (expr.rolls-Var v) (All-cons P v [] h (All-nil P))

  pub of_cell : (v : Var) (i : Expr) → P v → Of i → Of (expr.Cell v i)
  unfolding layer_vars
  of_cell v i h k = at_layer (Expr-F.Cell v i) _ (expr.rolls-Cell v i) (All-cons P v (vars_in i) h k)

  pub of_load : (a : Access) → Of (out-Access a).at → Of (expr.Load a)
  unfolding layer_vars
  of_load a h = at_layer (Expr-F.Load a) _ (expr.rolls-Load a) h

  pub of_negated : (a : Expr) (at : Span) → Of a → Of (expr.Neg a at)
  unfolding layer_vars
  of_negated a at h = at_layer (Expr-F.Neg a at) _ (expr.rolls-Neg a at) h

  pub of_inverted : (a : Expr) (at : Span) → Of a → Of (expr.Not a at)
  unfolding layer_vars
  of_inverted a at h = at_layer (Expr-F.Not a at) _ (expr.rolls-Not a at) h

  pub of_cast : (z : Size) (s : Bool) (a : Expr) (at : Span) → Of a → Of (expr.Cast z s a at)
  unfolding layer_vars
  of_cast z s a at h = at_layer (Expr-F.Cast z s a at) _ (expr.rolls-Cast z s a at) h

  pub of_operation : (o : BinOp) (a b : Expr) (at : Span) → Of a → Of b → Of (expr.Bin o a b at)
  unfolding layer_vars
  of_operation o a b at h k = at_layer (Expr-F.Bin o a b at) _ (expr.rolls-Bin o a b at) (All-append P (vars_in a) (vars_in b) h k)

-- ---- statements
abbrev pub HasPlain : Layer → Type 0
HasPlain k = All IsPlain (used_by k) × IsUnmarked k

abbrev pub PlainOne : Stmt → Type 0
PlainOne s = HasPlain (layer_of s)

abbrev pub PlainStmt : Stmt → Type 0
PlainStmt s = All PlainOne (statements_in s)

abbrev pub PlainKind : StmtKind → Type 0
PlainKind k = All PlainOne (in_kind k) × HasPlain (out-StmtKind k)

abbrev pub PlainBody : List Stmt → Type 0
PlainBody ss = All PlainOne (statements_of ss)

pub plain_body : (ss : List Stmt) → All PlainStmt ss → PlainBody ss
plain_body [] h = All-nil PlainOne
plain_body (s ∷ ss) h = All-append PlainOne (statements_in s) (statements_of ss) (All-head PlainStmt s ss h) (plain_body ss (All-tail PlainStmt s ss h))

nested_plain : (ss : List Stmt) → PlainBody ss → All PlainOne (nested_statements (map pair ss))
nested_plain ss h = subst (All PlainOne) (sym (same ss)) h
  where
    same : (ss : List Stmt) → nested_statements (map pair ss) ≡ statements_of ss
    same [] = refl
    same (s ∷ ss) = ap (λ l. statements_in s ++ l) (same ss)

kind_plain : (x : Layer) (k : StmtKind) → roll-StmtKind x ≡ k → All PlainOne (nested_step (pairs x)) → HasPlain x → PlainKind k
kind_plain x k is h d = subst PlainKind is (subst (All PlainOne) (sym (opened x)) h, subst HasPlain (sym (out-roll-StmtKind x)) d)

pub assign_plain : (to : List Lval) (o : Option BinOp) (from : Rhs) (c : Option Expr) → All IsPlain (used_by (StmtKind-F.Assign to o from c)) → PlainKind (kind.Assign to o from c)
unfolding pairs
assign_plain to o from c h = kind_plain (StmtKind-F.Assign to o from c) _ (kind.rolls-Assign to o from c) (All-nil PlainOne) (h, tt)

pub if_plain : (c : Expr) (a b : List Stmt) → All IsPlain (used_by (StmtKind-F.If c a b)) → PlainBody a → PlainBody b → PlainKind (kind.If c a b)
unfolding pairs
if_plain c a b h p q =
    kind_plain (StmtKind-F.If c a b) _ (kind.rolls-If c a b)
    (All-append PlainOne (nested_statements (map pair a)) (nested_statements (map pair b)) (nested_plain a p) (nested_plain b q)) (h, tt)

pub while_plain : (p : List Stmt) (c : Expr) → All IsPlain (used_by (StmtKind-F.While p c None)) → PlainBody p → PlainKind (kind.While p c None)
unfolding pairs
while_plain p c h q = kind_plain (StmtKind-F.While p c None) _ (kind.rolls-While p c None) (nested_plain p q) (h, tt)

pub loop_plain : (p : List Stmt) (c : Expr) (b : List Stmt) → All IsPlain (used_by (StmtKind-F.While p c (Some b))) → PlainBody p → PlainBody b → PlainKind (kind.While p c (Some b))
unfolding pairs
loop_plain p c b h q r =
    kind_plain (StmtKind-F.While p c (Some b)) _ (kind.rolls-While p c (Some b))
    (All-append PlainOne (nested_statements (map pair p)) (nested_statements (map pair b)) (nested_plain p q) (nested_plain b r)) (h, tt)

pub for_plain : (i : Var) (from : Expr) (down : Bool) (to : Expr) (b : List Stmt) → All IsPlain (used_by (StmtKind-F.For i from down to b)) → PlainBody b → PlainKind (kind.For i from down to b)
unfolding pairs
for_plain i from down to b h q = kind_plain (StmtKind-F.For i from down to b) _ (kind.rolls-For i from down to b) (nested_plain b q) (h, tt)

-- a statement of that kind
pub stmt_plain : (x : Stmt-F StmtKind Stmt) → PlainKind x.kind → PlainStmt (record { notes = x.notes; span = x.span; kind = x.kind })
stmt_plain x h = subst (All PlainOne) (sym (in_stmt x)) (All-cons PlainOne _ (in_kind x.kind) h.1 h.0)
