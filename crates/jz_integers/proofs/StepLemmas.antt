-- Steps down the left side of an expression, and the values on the way up.
use Rattle.std.proofs.Common.{◌≡◌, ℕ, zero, suc, ◌≤◌, ◌+◌, Option, None, refl, ap, sym, ◌∙◌, subst, arith}
use Rattle.jz_tree.specs.Span.{Span}
use Rattle.jz_tree.specs.declared.expr.BinOp.{BinOp}
use Rattle.jz_tree.specs.declared.expr.Expr.{Expr, size-Expr}
use Rattle.jz_tree.specs.declared.expr.Ty.{Ty}
use Rattle.jz_tree.specs.declared.expr.Access.{Access}
use Rattle.jz_tree.specs.declared.expr.Decl.{Decl}
use Rattle.jz_tree.specs.declared.expr.Var.{Var}
use Rattle.jz_tree.specs.declared.expr.Expr.TheVariants as expr
use Rattle.jz_tree.specs.declared.expr.Expr.TheOpen.{Expr-F}
use Rattle.jz_tree.specs.declared.expr.Expr.TheViews.{out-Expr, roll-Expr, out-roll-Expr, roll-out-Expr}
use Rattle.jz_integers.specs.declared.constant.Constant.{Constant}
use Rattle.jz_integers.specs.Integers.{plain_value, joined}
use Rattle.jz_integers.specs.InnerLeftSides.{left_layer, left_of, left_at}
use Rattle.jz_integers.proofs.LeftSideLemmas.{left_smaller, value_bin}

pub one_more : (k : ℕ) (e : Expr) → left_at (k + 1) e ≡ left_of (left_at k e)
one_more zero e = refl
one_more (suc k) e = let q : suc k + 1 ≡ suc (k + 1) = omega arith in ap (λ n. left_at n e) q ∙ one_more k (left_of e)

pub further : (m k : ℕ) (e : Expr) → left_at k (left_at m e) ≡ left_at (m + k) e
further zero k e = let q : k ≡ 0 + k = omega arith in ap (λ n. left_at n e) q
further (suc m) k e = let q : suc (m + k) ≡ suc m + k = omega arith in further m k (left_of e) ∙ ap (λ n. left_at n e) q

layer_no_larger : (v : Expr-F Expr Ty Access Decl Var) → size-Expr (left_layer (roll-Expr v) v) ≤ size-Expr (roll-Expr v)
layer_no_larger (Expr-F.Num n at) = search arith
layer_no_larger (Expr-F.Expr::Bool b at) = search arith
layer_no_larger (Expr-F.Var v) = search arith
layer_no_larger (Expr-F.Cell v at) = search arith
layer_no_larger (Expr-F.Load a) = search arith
layer_no_larger (Expr-F.Neg a at) = search arith
layer_no_larger (Expr-F.Not a at) = search arith
layer_no_larger (Expr-F.Cast size signed a at) = search arith
layer_no_larger (Expr-F.Bin op a b at) = let q : size-Expr a ≤ size-Expr (expr.Bin op a b at) = omega (arith, left_smaller op a b at) in subst (λ x. size-Expr a ≤ size-Expr x) (sym (expr.rolls-Bin op a b at)) q

left_no_larger : (e : Expr) → size-Expr (left_of e) ≤ size-Expr e
left_no_larger e = subst (λ x. size-Expr (left_layer x (out-Expr e)) ≤ size-Expr x) (roll-out-Expr e) (layer_no_larger (out-Expr e))

pub no_larger : (k : ℕ) (e : Expr) → size-Expr (left_at k e) ≤ size-Expr e
no_larger zero e = search arith
no_larger (suc k) e = omega (arith, no_larger k (left_of e), left_no_larger e)

left_of_bin : (op : BinOp) (a b : Expr) (at : Span) → left_of (expr.Bin op a b at) ≡ a
left_of_bin op a b at = ap (left_layer (expr.Bin op a b at)) (ap out-Expr (sym (expr.rolls-Bin op a b at)) ∙ out-roll-Expr (Expr-F.Bin op a b at))

one_step : (n : ℕ) (op : BinOp) (a b : Expr) (at : Span) (v : Option Constant) → n ≡ 1 → v ≡ plain_value (left_at n (expr.Bin op a b at)) → joined op v (plain_value b) ≡ plain_value (expr.Bin op a b at)
one_step n op a b at v is below =
    let at_one : v ≡ plain_value a = below ∙ ap (λ k. plain_value (left_at k (expr.Bin op a b at))) is ∙ ap plain_value (left_of_bin op a b at) in
    ap (λ x. joined op x (plain_value b)) at_one ∙ sym (value_bin (λ name copy. None) op a b at)

-- the value of an operation by that of its left operand
pub climbed_one : (n : ℕ) (op : BinOp) (e a b : Expr) (at : Span) (v r x : Option Constant) → n ≡ 1 → e ≡ expr.Bin op a b at → v ≡ plain_value (left_at n e) → r ≡ plain_value b → x ≡ joined op v r → x ≡ plain_value e
climbed_one n op e a b at v r x is whole below right joins =
    joins ∙ ap (joined op v) right ∙ one_step n op a b at v is (below ∙ ap (λ y. plain_value (left_at n y)) whole) ∙ ap plain_value (sym whole)

-- what stands further down than the left operand is smaller
pub below_smaller : (k : ℕ) (op : BinOp) (e a b low : Expr) (at : Span) → e ≡ expr.Bin op a b at → low ≡ left_at k a → size-Expr low + 1 ≤ size-Expr e
below_smaller k op e a b low at whole is =
    let x : size-Expr low ≤ size-Expr a = subst (λ y. size-Expr y ≤ size-Expr a) (sym is) (no_larger k a) in
    let y : size-Expr e ≡ size-Expr (expr.Bin op a b at) = ap size-Expr whole in
    omega (arith, x, y, left_smaller op a b at)
