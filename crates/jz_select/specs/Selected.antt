-- The first row that matches.
use Rattle.std.specs.Prelude.{ℕ, Bool, true, false, nat_eq, List, [], ◌∷◌, ◌++◌, ◌≡◌, map, All, Option, Some, None, if◌then◌else◌}
use Rattle.std.specs.Option.{option_or}
use Rattle.jz_tree.specs.declared.stmt.StmtKind.{StmtKind}
use Rattle.jz_select.specs.declared.pattern.Pattern.{Pattern}
use Rattle.jz_select.specs.declared.pattern.Pattern.TheVariants as pattern
use Rattle.jz_tree.specs.declared.intrinsic.Intrinsic.{Intrinsic}
use Rattle.jz_tree.specs.declared.intrinsic.Intrinsic.TheVariants as name
use Rattle.jz_select.specs.declared.shape.Shape.{Shape}
use Rattle.jz_select.specs.Rows.{copy_row, arithmetic_row, carrying_row, unary_row, times_row, times_inline_row, wide_product_row, quotient_row, inline_shift_row, masked_shift_row, zero_extension_row, sign_extension_row, truncation_row, conditional_row, condition, intrinsic_of}
use Rattle.jz_tree.specs.declared.expr.Expr.{Expr}
use Rattle.jz_tree.specs.declared.stmt.Lval.{Lval}
use Rattle.jz_select.specs.Places.{Answers}
use Rattle.jz_select.specs.Shapes.{whichever, assign_of, shape_of}
use Rattle.jz_select.specs.Hardest.{hardest}

-- a pattern, and which statements match it
abbrev pub Row : Type 0
Row = Pattern × (Shape → Bool)

-- the rows of the pattern table in their order, then the conditions of `if` and `while`
abbrev pub operations : List Row
operations =
    (pattern.P 2, arithmetic_row) ∷ (pattern.P 3, carrying_row) ∷ (pattern.P 4, unary_row)
    ∷ (pattern.P 5, times_row) ∷ (pattern.P 6, times_inline_row) ∷ (pattern.P 7, wide_product_row)
    ∷ (pattern.P 8, quotient_row) ∷ (pattern.P 9, inline_shift_row)
    ∷ (pattern.P 10, masked_shift_row) ∷ (pattern.P 11, zero_extension_row)
    ∷ (pattern.P 12, sign_extension_row) ∷ (pattern.P 13, truncation_row)
    ∷ (pattern.P 14, conditional_row) ∷ (pattern.Condition, condition) ∷ []

abbrev pub table : List Row
table = (pattern.P 1, copy_row) ∷ operations

abbrev pub intrinsic_number : Intrinsic → ℕ
intrinsic_number name.Add = 0
intrinsic_number name.Sub = 1
intrinsic_number name.And = 2
intrinsic_number name.Or = 3
intrinsic_number name.Xor = 4
intrinsic_number name.Adc = 5
intrinsic_number name.Sbb = 6
intrinsic_number name.Neg = 7
intrinsic_number name.Inc = 8
intrinsic_number name.Dec = 9
intrinsic_number name.Not = 10
intrinsic_number name.Bswap = 11
intrinsic_number name.Lea = 12
intrinsic_number name.Cmp = 13
intrinsic_number name.Test = 14
intrinsic_number name.Shl = 15
intrinsic_number name.Shr = 16
intrinsic_number name.Sar = 17
intrinsic_number name.Rol = 18
intrinsic_number name.Ror = 19
intrinsic_number name.Imul = 20
intrinsic_number name.Mul = 21
intrinsic_number name.Div = 22
intrinsic_number name.Setcc = 23

abbrev pub is_named : Intrinsic → Option Intrinsic → Bool
is_named n None = false
is_named n (Some m) = nat_eq (intrinsic_number n) (intrinsic_number m)

abbrev pub intrinsics : List Intrinsic
intrinsics =
    name.Add ∷ name.Sub ∷ name.And ∷ name.Or ∷ name.Xor ∷ name.Adc ∷ name.Sbb ∷ name.Neg ∷ name.Inc
    ∷ name.Dec ∷ name.Not ∷ name.Bswap ∷ name.Lea ∷ name.Cmp ∷ name.Test ∷ name.Shl ∷ name.Shr
    ∷ name.Sar ∷ name.Rol ∷ name.Ror ∷ name.Imul ∷ name.Mul ∷ name.Div ∷ name.Setcc ∷ []

-- an intrinsic as a row
abbrev pub intrinsic_row : Intrinsic → Row
intrinsic_row n = (pattern.Intrinsic n, λ s. is_named n (intrinsic_of s))

abbrev pub rows : List Row
rows = table ++ map intrinsic_row intrinsics

-- none of these rows matches
abbrev pub NoneMatches : List Row → Shape → Type 0
NoneMatches rs s = All (λ q. q.1 s ≡ false) rs

-- the row r of that list matches, and no row before it does
abbrev pub FirstMatches : List Row → Shape → Row → Type 0
FirstMatches rs s r =
    (before : List Row) × (after : List Row) × (rs ≡ before ++ r ∷ after) × (r.1 s ≡ true)
    × NoneMatches before s

abbrev pub Tells : List Row → Shape → Option Pattern → Type 0
Tells rs s None = NoneMatches rs s
Tells rs s (Some p) = (r : Row) × (r.0 ≡ p) × FirstMatches rs s r

-- whichever way the open comparisons go, the statement matches the row of that pattern, and no row
-- before it; or there are answers with which it matches none
abbrev pub TellsAll : (Answers → Shape) → Option Pattern → Type 0
TellsAll shape None = (answers : Answers) × NoneMatches rows (shape answers)
TellsAll shape (Some p) = (answers : Answers) → Tells rows (shape answers) (Some p)

unfoldable pub IsSelected : StmtKind → Option Pattern → Type 0
IsSelected k answer = TellsAll (λ answers. shape_of (whichever answers) k) answer

-- the same of `to = e`, as a copy of an argument or result of a call is
unfoldable pub IsCopied : Lval → Expr → Option Pattern → Type 0
IsCopied to e answer = TellsAll (λ answers. assign_of (whichever answers) None to None e) answer

-- a statement has one answer
abbrev pub HasOneRow : StmtKind → Type 0
HasOneRow k = (a b : Option Pattern) → IsSelected k a → IsSelected k b → a ≡ b

-- ---- the same by a function
abbrev pub first_of : List Row → Shape → Option Pattern
first_of [] s = None
first_of (r ∷ rs) s = if r.1 s then Some r.0 else first_of rs s

abbrev pub pattern_named : Option Intrinsic → Option Pattern
pattern_named None = None
pattern_named (Some n) = Some (pattern.Intrinsic n)

unfoldable pub pattern_chosen : Shape → Option Pattern
pattern_chosen s = option_or (first_of table s) (pattern_named (intrinsic_of s))

-- the answers with which it is hardest tell which row is selected
unfoldable pub pattern_selected : StmtKind → Option Pattern
pattern_selected k = pattern_chosen (shape_of hardest k)

unfoldable pub pattern_copied : Lval → Expr → Option Pattern
pattern_copied to e = pattern_chosen (assign_of hardest None to None e)
