-- How much there is to draw.
use Rattle.std.proofs.Common.{◌≡◌, ℕ, zero, suc, ◌+◌, ◌<◌, ◌≤◌, List, [], ◌∷◌, map, length, get_or, Option, Some, None, sym, ap, ◌∙◌, arith}
use Rattle.jz_tree.specs.declared.expr.Expr.{Expr}
use Rattle.jz_tree.specs.declared.stmt.Stmt.{Stmt}
use Rattle.jz_tree.specs.declared.stmt.StmtKind.{StmtKind}
use Rattle.jz_tree.specs.declared.stmt.StmtKind.TheVariants as kind
use Rattle.jz_tree.specs.declared.stmt.StmtKind.TheOpen.{StmtKind-F}
use Rattle.jz_tree.specs.declared.stmt.StmtKind.TheFolds.{fold-Stmt, fold-StmtKind, fold-roll-Stmt, fold-roll-StmtKind}

abbrev pub add : List ℕ → ℕ
add [] = 0
add (n ∷ ns) = n + add ns

abbrev pub sum_of : Option (List ℕ) → ℕ
sum_of None = 0
sum_of (Some ns) = add ns

abbrev pub layer_weight : StmtKind-F ℕ ℕ → ℕ
layer_weight (StmtKind-F.Assign to op rhs cond) = 1
layer_weight (StmtKind-F.If c a b) = 1 + add a + add b
layer_weight (StmtKind-F.While p c b) = 1 + add p + sum_of b
layer_weight (StmtKind-F.For i from down to b) = 1 + add b
layer_weight (StmtKind-F.Mark xs) = 1

abbrev pub weight : Stmt → ℕ
weight = fold-Stmt _ _ layer_weight (λ s. s.kind)

unfoldable pub weight_kind : StmtKind → ℕ
weight_kind = fold-StmtKind _ _ layer_weight (λ s. s.kind)

abbrev pub weights : List Stmt → ℕ
weights ss = add (map weight ss)

abbrev pub body_weight : Option (List Stmt) → ℕ
body_weight None = 0
body_weight (Some ss) = weights ss

pub weight_is : (s : Stmt) → weight s ≡ weight_kind s.kind
unfolding weight_kind
weight_is s = fold-roll-Stmt _ _ layer_weight (λ s. s.kind) (record { notes = s.notes; span = s.span; kind = s.kind })

pub weight_if : (k : StmtKind) (c : Expr) (a b : List Stmt) → k ≡ kind.If c a b → weight_kind k ≡ 1 + weights a + weights b
unfolding weight_kind
weight_if k c a b e = ap weight_kind e ∙ ap weight_kind (sym (kind.rolls-If c a b)) ∙ fold-roll-StmtKind _ _ layer_weight (λ s. s.kind) (StmtKind-F.If c a b)

pub weight_while : (k : StmtKind) (p : List Stmt) (c : Expr) (b : Option (List Stmt)) → k ≡ kind.While p c b → weight_kind k ≡ 1 + weights p + body_weight b
unfolding weight_kind
weight_while k p c None e = ap weight_kind e ∙ ap weight_kind (sym (kind.rolls-While p c None)) ∙ fold-roll-StmtKind _ _ layer_weight (λ s. s.kind) (StmtKind-F.While p c None)
weight_while k p c (Some b) e = ap weight_kind e ∙ ap weight_kind (sym (kind.rolls-While p c (Some b))) ∙ fold-roll-StmtKind _ _ layer_weight (λ s. s.kind) (StmtKind-F.While p c (Some b))

pub weights_at : (ss : List Stmt) (i : ℕ) (s : Stmt) → i < length ss → s ≡ get_or ss i s → weight s ≤ weights ss
weights_at [] i s lt e = absurd (omega arith)
weights_at (x ∷ ss) zero s lt e = let h = ap weight e in omega (arith, h)
weights_at (x ∷ ss) (suc i) s lt e = let h = weights_at ss i s (omega arith) e in omega (arith, h)
