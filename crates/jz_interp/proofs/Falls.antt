-- The measure falls.
use Rattle.std.proofs.Common.{◌≡◌, ℕ, zero, suc, ◌+◌, ◌-◌, ◌<◌, ◌≤◌, Bool, true, false, List, [], ◌∷◌, length, get_or, Option, Some, None, sym, ap, ◌∙◌, arith}
use Rattle.std.specs.Prelude.{if◌then◌else◌}
use Rattle.std.specs.Str.{bytes_eq}
use Rattle.jz_tree.specs.declared.expr.BinOp.{BinOp}
use Rattle.jz_tree.specs.declared.expr.Expr.{Expr}
use Rattle.jz_tree.specs.declared.expr.Var.{Var}
use Rattle.jz_tree.specs.declared.stmt.Lval.{Lval}
use Rattle.jz_tree.specs.declared.stmt.Rhs.{Rhs}
use Rattle.jz_tree.specs.declared.program.Fun.{Fun}
use Rattle.jz_tree.specs.declared.stmt.Stmt.{Stmt}
use Rattle.jz_tree.specs.declared.stmt.StmtKind.{StmtKind}
use Rattle.jz_tree.specs.declared.stmt.StmtKind.TheVariants as kind
use Rattle.jz_tree.specs.declared.stmt.StmtKind.TheOpen.{StmtKind-F}
use Rattle.jz_tree.specs.declared.stmt.StmtKind.TheFolds.{fold-StmtKind, fold-roll-Stmt, fold-roll-StmtKind}
use Rattle.jz_type_names.specs.Scopes.{function_named}
use Rattle.jz_interp.specs.InnerCalls.{called_function}
use Rattle.jz_interp.proofs.Weights.{kind_weight, weight, weights, body_weight, total, level}

weight_kind : StmtKind → ℕ
weight_kind = fold-StmtKind _ _ kind_weight (λ s. s.kind)

weight_is : (s : Stmt) → weight s ≡ weight_kind s.kind
unfolding weight_kind
weight_is s = fold-roll-Stmt _ _ kind_weight (λ s. s.kind) (record { notes = s.notes; span = s.span; kind = s.kind })

pub weight_if : (s : Stmt) (c : Expr) (a b : List Stmt) → s.kind ≡ kind.If c a b → weight s ≡ 1 + weights a + weights b
unfolding weight_kind
weight_if s c a b e = weight_is s ∙ ap weight_kind e ∙ ap weight_kind (sym (kind.rolls-If c a b)) ∙ fold-roll-StmtKind _ _ kind_weight (λ s. s.kind) (StmtKind-F.If c a b)

pub weight_assign : (s : Stmt) (to : List Lval) (o : Option BinOp) (r : Rhs) (c : Option Expr) → s.kind ≡ kind.Assign to o r c → weight s ≡ 1
unfolding weight_kind
weight_assign s to o r c e = weight_is s ∙ ap weight_kind e ∙ ap weight_kind (sym (kind.rolls-Assign to o r c)) ∙ fold-roll-StmtKind _ _ kind_weight (λ s. s.kind) (StmtKind-F.Assign to o r c)

pub weight_for : (s : Stmt) (i : Var) (from : Expr) (down : Bool) (to : Expr) (b : List Stmt) → s.kind ≡ kind.For i from down to b → weight s ≡ 1 + weights b
unfolding weight_kind
weight_for s i from down to b e = weight_is s ∙ ap weight_kind e ∙ ap weight_kind (sym (kind.rolls-For i from down to b)) ∙ fold-roll-StmtKind _ _ kind_weight (λ s. s.kind) (StmtKind-F.For i from down to b)

pub weight_while : (s : Stmt) (p : List Stmt) (c : Expr) (b : Option (List Stmt)) → s.kind ≡ kind.While p c b → weight s ≡ 1 + weights p + body_weight b
unfolding weight_kind
weight_while s p c None e = weight_is s ∙ ap weight_kind e ∙ ap weight_kind (sym (kind.rolls-While p c None)) ∙ fold-roll-StmtKind _ _ kind_weight (λ s. s.kind) (StmtKind-F.While p c None)
weight_while s p c (Some b) e = weight_is s ∙ ap weight_kind e ∙ ap weight_kind (sym (kind.rolls-While p c (Some b))) ∙ fold-roll-StmtKind _ _ kind_weight (λ s. s.kind) (StmtKind-F.While p c (Some b))

pub weights_at : (ss : List Stmt) (i : ℕ) (s : Stmt) → i < length ss → s ≡ get_or ss i s → weight s ≤ weights ss
weights_at [] i s lt e = absurd (omega arith)
weights_at (x ∷ ss) zero s lt e = let h = ap weight e in omega (arith, h)
weights_at (x ∷ ss) (suc i) s lt e = let h = weights_at ss i s (omega arith) e in omega (arith, h)

pub arm_weight : (z : Bool) (a b c : List Stmt) → c ≡ (if z then a else b) → weights c ≤ weights a + weights b
arm_weight true a b c e = let h = ap weights e in omega (arith, h)
arm_weight false a b c e = let h = ap weights e in omega (arith, h)

-- a function that is found by its name is one of all
body_by : (b : Bool) (name : List ℕ) (f g : Fun) (fs : List Fun) → (function_named name fs ≡ Some g → weights g.body ≤ total fs) → (if b then Some f else function_named name fs) ≡ Some g → weights g.body ≤ weights f.body + total fs
body_by true name f g fs h e = let q : f ≡ g = cc in let x = ap (λ y. weights y.body) q in omega (arith, x)
body_by false name f g fs h e = let x = h e in omega (arith, x)

pub body_at : (name : List ℕ) (fs : List Fun) (g : Fun) → function_named name fs ≡ Some g → weights g.body ≤ total fs
body_at name [] g e = absurd cc
body_at name (f ∷ fs) g e = body_by (bytes_eq name f.name) name f g fs (body_at name fs g) e

-- what a call runs is less than what may be run where calls are as deep as here
pub one_deeper : (fs : List Fun) (d : ℕ) (o : Option BinOp) (n : List ℕ) (c : Option Expr) (f : Fun) → called_function fs d o n c ≡ Some f → level fs (d - 1) + weights f.body < level fs d
one_deeper fs zero o n c f e = absurd cc
one_deeper fs (suc d) None n None f e = let x = body_at n fs f e in let y : suc d - 1 ≡ d = omega arith in let h = ap (level fs) y in omega (arith, h, x)
one_deeper fs (suc d) None n (Some c) f e = absurd cc
one_deeper fs (suc d) (Some o) n c f e = absurd cc

pub some_depth : (fs : List Fun) (d : ℕ) (o : Option BinOp) (n : List ℕ) (c : Option Expr) (f : Fun) → called_function fs d o n c ≡ Some f → 1 ≤ d
some_depth fs zero o n c f e = absurd cc
some_depth fs (suc d) o n c f e = omega arith
