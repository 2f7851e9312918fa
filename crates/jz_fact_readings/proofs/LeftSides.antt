-- Steps down the left side of an expression.
use Rattle.std.proofs.Common.{◌≡◌, ℕ, zero, suc, ◌+◌, ◌-◌, ◌<◌, ◌≤◌, refl, ap, sym, ◌∙◌, subst, arith}
use Rattle.jz_tree.specs.Span.{Span}
use Rattle.jz_tree.specs.declared.expr.BinOp.{BinOp}
use Rattle.jz_tree.specs.declared.expr.Expr.{Expr, size-Expr}
use Rattle.jz_tree.specs.declared.expr.Expr.TheVariants as expr
use Rattle.jz_tree.specs.declared.expr.Expr.TheOpen.{Expr-F}
use Rattle.jz_tree.specs.declared.expr.Expr.TheViews.{out-Expr, out-roll-Expr}
use Rattle.jz_integers.specs.InnerLeftSides.{left_layer, left_of, left_at}
use Rattle.jz_integers.proofs.StepLemmas.{one_more, no_larger}
use Rattle.jz_meaning.proofs.LeftSideLemmas.{left_smaller, right_smaller}

left_of_bin : (op : BinOp) (a b : Expr) (at : Span) → left_of (expr.Bin op a b at) ≡ a
left_of_bin op a b at = ap (left_layer (expr.Bin op a b at)) (ap out-Expr (sym (expr.rolls-Bin op a b at)) ∙ out-roll-Expr (Expr-F.Bin op a b at))

pub left_is : (e : Expr) (op : BinOp) (a b : Expr) (at : Span) → e ≡ expr.Bin op a b at → left_of e ≡ a
left_is e op a b at h = ap left_of h ∙ left_of_bin op a b at

-- one step more, from an operation on
pub step_down : (k : ℕ) (e first new : Expr) (op : BinOp) (a b : Expr) (at : Span) → first ≡ expr.Bin op a b at → new ≡ a → first ≡ left_at k e → size-Expr first + k ≤ size-Expr e → (new ≡ left_at (k + 1) e) × (size-Expr new + (k + 1) ≤ size-Expr e)
step_down k e first new op a b at h i j l =
    let s : size-Expr new < size-Expr first = subst (λ x. size-Expr x < size-Expr first) (sym i) (subst (λ x. size-Expr a < size-Expr x) (sym h) (left_smaller op a b at)) in
    (i ∙ sym (left_is first op a b at h) ∙ ap left_of j ∙ sym (one_more k e), omega (arith, s, l))

-- a step less is left to go
pub one_less : (n : ℕ) (f e : Expr) → 0 < n → f ≡ left_of e → left_at (n - 1) f ≡ left_at n e
one_less zero f e l h = absurd (omega (arith, l))
one_less (suc n) f e l h = ap (λ k. left_at k f) (less n) ∙ ap (left_at n) h
  where
    less : (n : ℕ) → suc n - 1 ≡ n
    less n = omega arith

both_ways : (k j : ℕ) (e : Expr) → left_at j (left_at k e) ≡ left_at (k + j) e
both_ways zero j e = ap (λ n. left_at n e) (none j)
  where
    none : (j : ℕ) → j ≡ 0 + j
    none j = omega arith
both_ways (suc k) j e = both_ways k j (left_of e) ∙ ap (λ n. left_at n e) (moved k j)
  where
    moved : (k j : ℕ) → suc (k + j) ≡ suc k + j
    moved k j = omega arith

-- the rest of the way, where the first part is gone
pub rest_of : (k n : ℕ) (e f : Expr) → k ≤ n → f ≡ left_at k e → left_at (n - k) f ≡ left_at n e
rest_of k n e f l h = ap (left_at (n - k)) h ∙ both_ways k (n - k) e ∙ ap (λ m. left_at m e) (whole k n l)
  where
    whole : (k n : ℕ) → k ≤ n → k + (n - k) ≡ n
    whole k n l = omega (arith, l)

-- what stands further down is no larger
pub down_within : (k : ℕ) (e f : Expr) → f ≡ left_at k e → size-Expr f ≤ size-Expr e
down_within k e f h = subst (λ x. size-Expr x ≤ size-Expr e) (sym h) (no_larger k e)

-- the left operand is smaller
pub operands_within : (e : Expr) (op : BinOp) (a b : Expr) (at : Span) (l : Expr) → e ≡ expr.Bin op a b at → l ≡ a → size-Expr l < size-Expr e
operands_within e op a b at l h i = subst (λ x. size-Expr x < size-Expr e) (sym i) (subst (λ x. size-Expr a < size-Expr x) (sym h) (left_smaller op a b at))
