-- What the expansion leaves of an expression whose number is written is that number.
use Rattle.std.proofs.Common.{◌≡◌, ◌^◌, ℤ, pos, ◌+ℤ◌, ◌-ℤ◌, Bool, true, false, not, ◌||◌, [], ◌++◌, Option, Some, None, refl, sym, ap, ◌∙◌, if◌then◌else◌}
use Rattle.std.specs.Prelude.{int_lt}
use Rattle.std.proofs.lemmas.Bool.{false≢true}
use Rattle.jz_tree.specs.Span.{Span}
use Rattle.jz_tree.specs.Operators.{joins}
use Rattle.jz_tree.specs.declared.expr.BinOp.{BinOp}
use Rattle.jz_tree.specs.declared.expr.BinOp.TheVariants as op
use Rattle.jz_tree.specs.declared.expr.Expr.{Expr}
use Rattle.jz_tree.specs.declared.expr.Expr.TheVariants as expr
use Rattle.jz_tree.specs.declared.expr.Expr.TheOpen.{Expr-F}
use Rattle.jz_tree.specs.declared.expr.Expr.TheViews.{out-Expr, roll-Expr, roll-out-Expr, roll-out-Var, out-Var}
use Rattle.jz_tree.specs.declared.expr.Expr.TheFolds.{fold-Var, fold-roll-Expr, fold-roll-Var, map-Expr}
use Rattle.jz_tree.specs.declared.expr.Var.{Var}
use Rattle.jz_integers.specs.declared.constant.Constant.{Constant}
use Rattle.jz_integers.specs.declared.constant.Constant.TheVariants as constant
use Rattle.jz_integers.specs.Integers.{in_range, number, settles, with_right, joined, minus, opposite, value_step, the_number, plain_value, written_number}
use Rattle.jz_type_names.specs.Kinds.{is_inline}
use Rattle.jz_judgement.proofs.Nothing.{none_not}
use Rattle.jz_row_laws.proofs.Fixed.{Layer}
use Rattle.jz_one_row.proofs.Outs.{out_num, out_bool, out_var, out_cell, out_load, out_neg, out_not, out_cast, out_bin}
use Rattle.jz_homes.specs.Homes.{Homes}
use Rattle.jz_homes.specs.Sums as sums
use Rattle.jz_homes.specs.Sums.{Sum, sum_of, IsSum, a_multiple, multiple_of, added, less}
use Rattle.jz_total_rows.specs.Expanded.{IsExpanded, a_number, a_truth, a_variable, a_cell, a_load, a_minus, a_denial, a_cast, of_two}
use Rattle.jz_total_rows.proofs.InlineValues.{number_is_inline, not_both}

-- ---- values by forms
abbrev number_of_var : Var → Option ℤ
number_of_var = fold-Var _ _ _ _ _ value_step (λ t. tt) (λ a. tt) (λ d. tt) (λ v. None)

abbrev value_layer : Layer → Option Constant
value_layer x = value_step (map-Expr _ _ _ _ _ (Option Constant) (Unit {0}) (Unit {0}) (Unit {0}) (Option ℤ) plain_value (λ t. tt) (λ a. tt) (λ d. tt) number_of_var x)

value_is : (x : Layer) → plain_value (roll-Expr x) ≡ value_layer x
value_is x = fold-roll-Expr _ _ _ _ _ value_step (λ t. tt) (λ a. tt) (λ d. tt) (λ v. None) x

no_number : (v : Var) → number_of_var v ≡ None
no_number v = ap number_of_var (sym (roll-out-Var v)) ∙ fold-roll-Var _ _ _ _ _ value_step (λ t. tt) (λ a. tt) (λ d. tt) (λ v. None) (out-Var v)

value_at : (e : Expr) (l : Layer) → out-Expr e ≡ l → plain_value e ≡ value_layer l
value_at e l s = ap plain_value (sym (roll-out-Expr e)) ∙ (value_is (out-Expr e) ∙ ap value_layer s)

-- a number that is found of the layer
at_layer : (e : Expr) (l : Layer) (n : ℤ) → out-Expr e ≡ l → written_number e ≡ Some n → the_number (value_layer l) ≡ Some n
at_layer e l n s h = sym (ap the_number (value_at e l s)) ∙ h

-- ---- the numbers of operands
minus_of : (c : Option Constant) (n : ℤ) → the_number (minus c) ≡ Some n → (i : ℤ) × (the_number c ≡ Some i)
minus_of None n h = absurd (none_not n h)
minus_of (Some (constant.Int i)) n h = (i, refl)
minus_of (Some (constant.Bool b)) n h = absurd (none_not n h)

opposite_of : (c : Option Constant) (n : ℤ) → the_number (opposite c) ≡ Some n → (i : ℤ) × (the_number c ≡ Some i)
opposite_of None n h = absurd (none_not n h)
opposite_of (Some (constant.Int i)) n h = (i, refl)
opposite_of (Some (constant.Bool b)) n h = absurd (none_not n h)

truths : (j : Bool) (c : Bool) (n : ℤ) → the_number (if j then Some (constant.Bool c) else None) ≡ Some n → ⊥
truths true c n h = none_not n h
truths false c n h = none_not n h

right_truth : (o : BinOp) (b : Bool) (y : Option Constant) (n : ℤ) → the_number (with_right o (constant.Bool b) y) ≡ Some n → ⊥
right_truth o b None n h = none_not n h
right_truth o b (Some (constant.Int j)) n h = none_not n h
right_truth o b (Some (constant.Bool c)) n h = truths (joins o) c n h

left_truth : (o : BinOp) (b s : Bool) (y : Option Constant) (n : ℤ) → the_number (if s then Some (constant.Bool b) else with_right o (constant.Bool b) y) ≡ Some n → ⊥
left_truth o b true y n h = none_not n h
left_truth o b false y n h = right_truth o b y n h

pub record AreNumbers (x y : Option Constant) : Type 0 where
  pub first : ℤ
  pub second : ℤ
  pub first_is : the_number x ≡ Some first
  pub second_is : the_number y ≡ Some second

joined_of : (o : BinOp) (x y : Option Constant) (n : ℤ) → the_number (joined o x y) ≡ Some n → AreNumbers x y
joined_of o None y n h = absurd (none_not n h)
joined_of o (Some (constant.Int i)) None n h = absurd (none_not n h)
joined_of o (Some (constant.Int i)) (Some (constant.Int j)) n h = record { first = i; second = j; first_is = refl; second_is = refl }
joined_of o (Some (constant.Int i)) (Some (constant.Bool c)) n h = absurd (none_not n h)
joined_of o (Some (constant.Bool b)) y n h = absurd (left_truth o b (settles o b) y n h)

-- ---- each form
abbrev IsThat : Expr → ℤ → Type 0
IsThat e n = (at : Span) × (e ≡ expr.Num n at)

same_int : (i n : ℤ) → ◌≡◌ {A = Option ℤ} (Some i) (Some n) → i ≡ n
same_int i n e = cc

not_there : (a : Expr) → is_inline a ≡ false → (i : ℤ) → IsThat a i → ⊥
not_there a n i w = false≢true (sym n ∙ number_is_inline a (i, w.0, w.1))

pub written_is : (home : Homes) (e : Expr) → IsExpanded home e → (n : ℤ) → written_number e ≡ Some n → IsThat e n
written_is home e (a_number i at) n h = (at, ap (λ k. expr.Num k at) (same_int i n (at_layer (expr.Num i at) (Expr-F.Num i at) n (out_num i at) h)))
written_is home e (a_truth b at) n h = absurd (none_not n (at_layer (expr.Bool b at) (Expr-F.Expr::Bool b at) n (out_bool b at) h))
written_is home e (a_variable v x) n h =
    absurd (none_not n (sym (ap (λ k. the_number (number k)) (no_number v)) ∙ at_layer (expr.Var v) (Expr-F.Var v) n (out_var v) h))
written_is home e (a_cell v i x y) n h = absurd (none_not n (at_layer (expr.Cell v i) (Expr-F.Cell v i) n (out_cell v i) h))
written_is home e (a_load a x) n h = absurd (none_not n (at_layer (expr.Load a) (Expr-F.Load a) n (out_load a) h))
written_is home e (a_minus a at m x) n h =
    let k = minus_of (plain_value a) n (at_layer (expr.Neg a at) (Expr-F.Neg a at) n (out_neg a at) h) in
    absurd (not_there a m k.0 (written_is home a x k.0 k.1))
written_is home e (a_denial a at m x) n h =
    let k = opposite_of (plain_value a) n (at_layer (expr.Not a at) (Expr-F.Not a at) n (out_not a at) h) in
    absurd (not_there a m k.0 (written_is home a x k.0 k.1))
written_is home e (a_cast z s a at x) n h = absurd (none_not n (at_layer (expr.Cast z s a at) (Expr-F.Cast z s a at) n (out_cast z s a at) h))
written_is home e (of_two o a b at m x y) n h =
    let k = joined_of o (plain_value a) (plain_value b) n (at_layer (expr.Bin o a b at) (Expr-F.Bin o a b at) n (out_bin o a b at) h) in
    let p = written_is home a x k.first k.first_is in
    let q = written_is home b y k.second k.second_is in
    absurd (not_both a b m (number_is_inline a (k.first, p.0, p.1)) (number_is_inline b (k.second, q.0, q.1)))

-- ---- sums
constant_there : (c : Option Constant) (n : ℤ) → the_number c ≡ Some n → c ≡ Some (constant.Int n)
constant_there None n h = absurd (none_not n h)
constant_there (Some (constant.Int i)) n h = ap (λ k. Some (constant.Int k)) (same_int i n h)
constant_there (Some (constant.Bool b)) n h = absurd (none_not n h)

in_range_is : (i n : ℤ) → the_number (number (in_range i)) ≡ Some n → i ≡ n
in_range_is i n h = by_test (int_lt i (pos 0 -ℤ pos (2 ^ 127)) || not (int_lt i (pos (2 ^ 127)))) h
  where
    by_test : (b : Bool) → the_number (number (if b then None else Some i)) ≡ Some n → i ≡ n
    by_test true h = absurd (none_not n h)
    by_test false h = same_int i n h

no_variable : (v : Var) (n : ℤ) → written_number (expr.Var v) ≡ Some n → ⊥
no_variable v n h = none_not n (sym (ap (λ k. the_number (number k)) (no_number v)) ∙ at_layer (expr.Var v) (Expr-F.Var v) n (out_var v) h)

sum_written : (t u : Sum) (p q n : ℤ) → t ≡ sum_of [] p → u ≡ sum_of [] q → p +ℤ q ≡ n → sum_of (t.terms ++ u.terms) (t.number +ℤ u.number) ≡ sum_of [] n
sum_written t u p q n e f g = (λ i. sum_of ((e i).terms ++ (f i).terms) ((e i).number +ℤ (f i).number)) ∙ ap (sum_of []) g

less_written : (t : Sum) (p q n : ℤ) → t ≡ sum_of [] p → p -ℤ q ≡ n → sum_of t.terms (t.number -ℤ q) ≡ sum_of [] n
less_written t p q n e g = (λ i. sum_of (e i).terms ((e i).number -ℤ q)) ∙ ap (sum_of []) g

-- a sum whose number is written is that number
pub written_sum : (home : Homes) (e : Expr) (t : Sum) → IsSum home e t → (n : ℤ) → written_number e ≡ Some n → t ≡ sum_of [] n
written_sum home e t (sums.a_number i at) n h = ap (sum_of []) (same_int i n (at_layer (expr.Num i at) (Expr-F.Num i at) n (out_num i at) h))
written_sum home e t (sums.a_variable v m k) n h = absurd (no_variable v n h)
written_sum home e t (a_multiple v m k at here g) n h =
    let x = expr.Var v in
    let y = expr.Num k at in
    let j = joined_of op.Mul (plain_value x) (plain_value y) n (at_layer (expr.Bin op.Mul x y here) (Expr-F.Bin op.Mul x y here) n (out_bin op.Mul x y here) h) in
    absurd (no_variable v j.first j.first_is)
written_sum home e t (multiple_of v m k at here g) n h =
    let x = expr.Num k at in
    let y = expr.Var v in
    let j = joined_of op.Mul (plain_value x) (plain_value y) n (at_layer (expr.Bin op.Mul x y here) (Expr-F.Bin op.Mul x y here) n (out_bin op.Mul x y here) h) in
    absurd (no_variable v j.second j.second_is)
written_sum home e t (added {a} {b} {t = u} {u = w} here p q) n h =
    let g = at_layer (expr.Bin op.Add a b here) (Expr-F.Bin op.Add a b here) n (out_bin op.Add a b here) h in
    let j = joined_of op.Add (plain_value a) (plain_value b) n g in
    let k : the_number (joined op.Add (Some (constant.Int j.first)) (Some (constant.Int j.second))) ≡ Some n =
    sym (λ i. the_number (joined op.Add (constant_there (plain_value a) j.first j.first_is i) (constant_there (plain_value b) j.second j.second_is i))) ∙ g
    in
    sum_written u w j.first j.second n (written_sum home a u p j.first j.first_is) (written_sum home b w q j.second j.second_is) (in_range_is (j.first +ℤ j.second) n k)
written_sum home e t (less {a} {t = u} i at here p) n h =
    let b = expr.Num i at in
    let g = at_layer (expr.Bin op.Sub a b here) (Expr-F.Bin op.Sub a b here) n (out_bin op.Sub a b here) h in
    let j = joined_of op.Sub (plain_value a) (plain_value b) n g in
    let m : i ≡ j.second = same_int i j.second (at_layer b (Expr-F.Num i at) j.second (out_num i at) j.second_is) in
    let k : the_number (joined op.Sub (Some (constant.Int j.first)) (Some (constant.Int j.second))) ≡ Some n =
    sym (λ i. the_number (joined op.Sub (constant_there (plain_value a) j.first j.first_is i) (constant_there (plain_value b) j.second j.second_is i))) ∙ g
    in
    less_written u j.first i n (written_sum home a u p j.first j.first_is) (ap (λ x. j.first -ℤ x) m ∙ in_range_is (j.first -ℤ j.second) n k)
