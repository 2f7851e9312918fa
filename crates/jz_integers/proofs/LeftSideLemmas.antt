-- Left sides, and the values that wait on them.
use Rattle.std.proofs.Common.{◌≡◌, ℕ, ◌<◌, ◌≤◌, List, [], ◌∷◌, ◌++◌, Option, refl, ap, sym, ◌∙◌, subst, arith}
use Rattle.std.specs.Prelude.{ℤ}
use Rattle.jz_tree.specs.Span.{Span}
use Rattle.jz_tree.specs.declared.expr.BinOp.{BinOp}
use Rattle.jz_tree.specs.declared.expr.Expr.{Expr, size-Expr}
use Rattle.jz_tree.specs.declared.expr.Expr.TheVariants as expr
use Rattle.jz_tree.specs.declared.expr.Expr.TheOpen.{Expr-F}
use Rattle.jz_tree.specs.declared.expr.Expr.TheViews.{sized-Bin}
use Rattle.jz_tree.specs.declared.expr.Expr.TheFolds.{fold-roll-Expr}
use Rattle.jz_integers.specs.declared.constant.Constant.{Constant}
use Rattle.jz_integers.specs.declared.sides.Waiting.{Waiting}
use Rattle.jz_integers.specs.Integers.{inline_value, joined, value_step}
use Rattle.jz_integers.specs.InnerLeftSides.{on_left}

pub last_waiting : (ws : List Waiting) (w : Waiting) (e : Expr) → on_left (ws ++ w ∷ []) e ≡ on_left ws (expr.Bin w.op e w.right.now w.span)
last_waiting [] w e = refl
last_waiting (v ∷ ws) w e = ap (λ x. expr.Bin v.op x v.right.now v.span) (last_waiting ws w e)

pub left_smaller : (op : BinOp) (l r : Expr) (s : Span) → size-Expr l < size-Expr (expr.Bin op l r s)
left_smaller op l r s = rw (sized-Bin op l r s) (search arith)

right_smaller : (op : BinOp) (l r : Expr) (s : Span) → size-Expr r < size-Expr (expr.Bin op l r s)
right_smaller op l r s = rw (sized-Bin op l r s) (search arith)

-- each right operand is smaller than this
abbrev pub AllSmaller : ℕ → List Waiting → Type 0
AllSmaller n [] = Unit {0}
AllSmaller n (w ∷ ws) = (size-Expr w.right.now < n) × AllSmaller n ws

wider : (m n : ℕ) (ws : List Waiting) → m ≤ n → AllSmaller m ws → AllSmaller n ws
wider m n [] le h = tt
wider m n (w ∷ ws) le h = (omega (arith, le, h.0), wider m n ws le h.1)

without_last : (n : ℕ) (ws : List Waiting) (w : Waiting) → AllSmaller n (ws ++ w ∷ []) → AllSmaller n ws × (size-Expr w.right.now < n)
without_last n [] w h = (tt, h.0)
without_last n (v ∷ ws) w h = let x = without_last n ws w h.1 in ((h.0, x.0), x.1)

-- the parts of a left side are no larger than the whole
parts_within : (ws : List Waiting) (e : Expr) → (size-Expr e ≤ size-Expr (on_left ws e)) × AllSmaller (size-Expr (on_left ws e)) ws
parts_within [] e = (search arith, tt)
parts_within (w ∷ ws) e =
    let x = parts_within ws e in
    let l = left_smaller w.op (on_left ws e) w.right.now w.span in
    (omega (arith, x.0, l), (right_smaller w.op (on_left ws e) w.right.now w.span, wider _ _ ws (omega (arith, l)) x.1))

-- the value of a left side whose first operand has this value
abbrev pub value_on : (List ℕ → ℕ → Option ℤ) → List Waiting → Option Constant → Option Constant
value_on numbers [] v = v
value_on numbers (w ∷ ws) v = joined w.op (value_on numbers ws v) (inline_value numbers w.right.now)

pub value_bin : (numbers : List ℕ → ℕ → Option ℤ) (op : BinOp) (a b : Expr) (at : Span) → inline_value numbers (expr.Bin op a b at) ≡ joined op (inline_value numbers a) (inline_value numbers b)
value_bin numbers op a b at = ap (inline_value numbers) (sym (expr.rolls-Bin op a b at)) ∙ fold-roll-Expr _ _ _ _ _ value_step (λ t. tt) (λ a. tt) (λ d. tt) (λ v. numbers v.name v.copy) (Expr-F.Bin op a b at)

value_of_side : (numbers : List ℕ → ℕ → Option ℤ) (ws : List Waiting) (e : Expr) → value_on numbers ws (inline_value numbers e) ≡ inline_value numbers (on_left ws e)
value_of_side numbers [] e = refl
value_of_side numbers (w ∷ ws) e = ap (λ x. joined w.op x (inline_value numbers w.right.now)) (value_of_side numbers ws e) ∙ sym (value_bin numbers w.op (on_left ws e) w.right.now w.span)

last_joined : (numbers : List ℕ → ℕ → Option ℤ) (ws : List Waiting) (w : Waiting) (v : Option Constant) → value_on numbers (ws ++ w ∷ []) v ≡ value_on numbers ws (joined w.op v (inline_value numbers w.right.now))
last_joined numbers [] w v = refl
last_joined numbers (u ∷ ws) w v = ap (λ x. joined u.op x (inline_value numbers u.right.now)) (last_joined numbers ws w v)

-- on the way up: the operations that still wait make of this value that of the whole
abbrev pub IsOnTheWay : (List ℕ → ℕ → Option ℤ) → Expr → List Waiting → Option Constant → Type 0
IsOnTheWay numbers e ws v = (value_on numbers ws v ≡ inline_value numbers e) × AllSmaller (size-Expr e) ws

pub first_within : (e first : Expr) (ws : List Waiting) → on_left ws first ≡ e → size-Expr first ≤ size-Expr e
first_within e first ws whole = subst (λ x. size-Expr first ≤ size-Expr x) whole (parts_within ws first).0

pub begins : (numbers : List ℕ → ℕ → Option ℤ) (e first : Expr) (ws : List Waiting) (v : Option Constant) → on_left ws first ≡ e → v ≡ inline_value numbers first → IsOnTheWay numbers e ws v
begins numbers e first ws v whole is =
    (ap (value_on numbers ws) is ∙ value_of_side numbers ws first ∙ ap (inline_value numbers) whole, subst (λ x. AllSmaller (size-Expr x) ws) whole (parts_within ws first).1)

pub goes_on : (numbers : List ℕ → ℕ → Option ℤ) (e : Expr) (ws us : List Waiting) (w : Waiting) (v r : Option Constant) → ws ≡ us ++ w ∷ [] → IsOnTheWay numbers e ws v → r ≡ joined w.op v (inline_value numbers w.right.now) → IsOnTheWay numbers e us r
goes_on numbers e ws us w v r last way is = (
  ap (value_on numbers us) is ∙ sym (last_joined numbers us w v) ∙ ap (λ x. value_on numbers x v) (sym last) ∙ way.0,
  (without_last (size-Expr e) us w (subst (AllSmaller (size-Expr e)) last way.1)).0,
)

pub last_within : (numbers : List ℕ → ℕ → Option ℤ) (e : Expr) (ws us : List Waiting) (w : Waiting) (v : Option Constant) → ws ≡ us ++ w ∷ [] → IsOnTheWay numbers e ws v → size-Expr w.right.now < size-Expr e
last_within numbers e ws us w v last way = (without_last (size-Expr e) us w (subst (AllSmaller (size-Expr e)) last way.1)).1
