-- What the operators give on whole numbers and on truths, and the value of an inline expression.
use Rattle.std.specs.Prelude.{ℕ, ◌^◌, nat_lt, Bool, false, not, ◌||◌, List, Option, Some, None, option_map, if◌then◌else◌, ℤ, pos, negsuc, neg_ℤ, ◌+ℤ◌, ◌-ℤ◌, ◌*ℤ◌, int_lt, int_le, int_div, int_rem}
use Rattle.std.specs.Ordering.{int_eq}
use Rattle.std.specs.Int.{w128, int_bit_and, int_bit_or, int_bit_xor, int_bit_not, int_shr}
use Rattle.jz_tree.specs.Operators.{joins}
use Rattle.jz_tree.specs.declared.expr.BinOp.{BinOp}
use Rattle.jz_tree.specs.declared.expr.BinOp.TheVariants as o
use Rattle.jz_tree.specs.declared.expr.Expr.{Expr}
use Rattle.jz_tree.specs.declared.expr.Expr.TheOpen.{Expr-F}
use Rattle.jz_tree.specs.declared.expr.Expr.TheFolds.{fold-Expr}
use Rattle.jz_integers.specs.declared.constant.Constant.{Constant}
use Rattle.jz_integers.specs.declared.constant.Constant.TheVariants as constant

-- ---- whole numbers

-- one of 128 bits with a sign
abbrev pub in_range : ℤ → Option ℤ
in_range i =
    if int_lt i (pos 0 -ℤ pos (2 ^ 127)) || not (int_lt i (pos (2 ^ 127))) then None else Some i

-- rounded towards 0; where there is none there is no remainder
abbrev pub quotient : ℤ → ℤ → Option ℤ
quotient i j = if int_eq j (pos 0) then None else in_range (int_div i j)

abbrev pub remainder : ℤ → ℤ → Option ℤ
remainder i j = option_map (λ q. int_rem i j) (quotient i j)

-- 0 .. 127
abbrev pub count_of : ℤ → Option ℕ
count_of (negsuc n) = None
count_of (pos n) = if nat_lt n 128 then Some n else None

abbrev pub with_count : Option ℕ → (ℕ → Option ℤ) → Option ℤ
with_count None f = None
with_count (Some n) f = f n

abbrev pub shifted_left : ℤ → ℕ → Option ℤ
shifted_left i n = in_range (i *ℤ pos (2 ^ n))

-- rounded down
abbrev pub shifted_right : ℤ → ℕ → Option ℤ
shifted_right i n = Some (int_shr i n)

abbrev pub negated : ℤ → Option ℤ
negated i = in_range (neg_ℤ i)

-- each of the 128 bits turned over
abbrev pub inverted : ℤ → ℤ
inverted i = int_bit_not w128 i

abbrev pub number : Option ℤ → Option Constant
number n = option_map constant.Int n

abbrev pub truth : Bool → Option Constant
truth b = Some (constant.Bool b)

-- exact; the signed forms and the rotations are of words alone, `&&` and `||` of truths
abbrev pub on_integers : BinOp → ℤ → ℤ → Option Constant
on_integers o.Or i j = number (Some (int_bit_or w128 i j))
on_integers o.Xor i j = number (Some (int_bit_xor w128 i j))
on_integers o.And i j = number (Some (int_bit_and w128 i j))
on_integers o.Add i j = number (in_range (i +ℤ j))
on_integers o.Sub i j = number (in_range (i -ℤ j))
on_integers o.Mul i j = number (in_range (i *ℤ j))
on_integers o.Div i j = number (quotient i j)
on_integers o.Rem i j = number (remainder i j)
on_integers o.Shl i j = number (with_count (count_of j) (shifted_left i))
on_integers o.Shr i j = number (with_count (count_of j) (shifted_right i))
on_integers o.Eq i j = truth (int_eq i j)
on_integers o.Ne i j = truth (not (int_eq i j))
on_integers o.Lt i j = truth (int_lt i j)
on_integers o.Le i j = truth (int_le i j)
on_integers o.Gt i j = truth (int_lt j i)
on_integers o.Ge i j = truth (int_le j i)
on_integers _ i j = None

-- ---- values

-- the left part alone gives the answer
abbrev pub settles : BinOp → Bool → Bool
settles o.AndThen c = not c
settles o.OrElse c = c
settles _ c = false

-- where the left part does not give it
abbrev pub on_both : BinOp → Constant → Constant → Option Constant
on_both op (constant.Int i) (constant.Int j) = on_integers op i j
on_both op (constant.Bool b) (constant.Bool c) = if joins op then truth c else None
on_both op _ _ = None

abbrev pub is_settled : BinOp → Constant → Bool
is_settled op (constant.Int i) = false
is_settled op (constant.Bool b) = settles op b

abbrev pub with_right : BinOp → Constant → Option Constant → Option Constant
with_right op x None = None
with_right op x (Some y) = on_both op x y

-- the right part is not asked where the left one settles it
abbrev pub joined : BinOp → Option Constant → Option Constant → Option Constant
joined op None y = None
joined op (Some x) y = if is_settled op x then Some x else with_right op x y

abbrev pub minus : Option Constant → Option Constant
minus (Some (constant.Int i)) = number (negated i)
minus _ = None

abbrev pub opposite : Option Constant → Option Constant
opposite None = None
opposite (Some (constant.Int i)) = number (Some (inverted i))
opposite (Some (constant.Bool b)) = truth (not b)

-- what no arithmetic of inline expressions needs: types, accesses and declarations
abbrev Nothing : Type 0
Nothing = Unit {0}

-- a layer whose operands are known by their values, and whose variables by their numbers
abbrev pub ValueLayer : Type 0
ValueLayer = Expr-F (Option Constant) Nothing Nothing Nothing (Option ℤ)

abbrev pub value_step : ValueLayer → Option Constant
value_step (Expr-F.Num n at) = number (Some n)
value_step (Expr-F.Expr::Bool b at) = truth b
value_step (Expr-F.Var v) = number v
value_step (Expr-F.Cell v at) = None
value_step (Expr-F.Load a) = None
value_step (Expr-F.Neg a at) = minus a
value_step (Expr-F.Not a at) = opposite a
value_step (Expr-F.Cast size signed a at) = None
value_step (Expr-F.Bin op a b at) = joined op a b

-- the numbers of variables and constants by name and copy, where they are known
abbrev pub KnownNumbers : Type 0
KnownNumbers = List ℕ → ℕ → Option ℤ

-- the value of an expression, with these numbers
abbrev pub inline_value : KnownNumbers → Expr → Option Constant
inline_value numbers =
    fold-Expr _ _ _ _ _ value_step (λ t. tt) (λ a. tt) (λ d. tt) (λ v. numbers v.name v.copy)

abbrev pub the_number : Option Constant → Option ℤ
the_number (Some (constant.Int i)) = Some i
the_number _ = None

-- the value of an expression in which no variable has a number
abbrev pub plain_value : Expr → Option Constant
plain_value e = inline_value (λ name copy. None) e

-- the number that an expression without variables is
abbrev pub written_number : Expr → Option ℤ
written_number e = the_number (plain_value e)
