-- An intrinsic by its form: which flags lead its results, and what it makes of the results and the
-- operands behind them.
use Rattle.std.specs.Prelude.{◌≡◌, ℕ, Bool, true, false, List, [], ◌∷◌, ◌++◌, Option, Some, None}
use Rattle.jz_words.specs.declared.size.Size.{Size}
use Rattle.jz_words.specs.declared.size.Size.TheVariants.{S64}
use Rattle.x64_insn.specs.declared.types.Alu.{Alu}
use Rattle.x64_insn.specs.declared.types.Alu.TheVariants as alu
use Rattle.x64_insn.specs.declared.types.One.{One}
use Rattle.x64_insn.specs.declared.types.One.TheVariants as one
use Rattle.x64_insn.specs.declared.types.Shift.{Shift}
use Rattle.x64_insn.specs.declared.types.Shift.TheVariants as shift
use Rattle.jz_tree.specs.declared.intrinsic.Intrinsic.{Intrinsic}
use Rattle.jz_tree.specs.declared.intrinsic.Intrinsic.TheVariants as name
use Rattle.jz_tree.specs.declared.expr.BinOp.TheVariants as op
use Rattle.jz_tree.specs.declared.expr.Expr.{Expr}
use Rattle.jz_tree.specs.declared.expr.Expr.TheVariants as expr
use Rattle.jz_tree.specs.declared.expr.Var.{Var}
use Rattle.jz_tree.specs.declared.stmt.Lval.{Lval}
use Rattle.jz_meaning.specs.Assignments.{left_span}
use Rattle.jz_meaning.specs.Values.{key_of, ref_of}
use Rattle.jz_operations.specs.declared.operation.Pinned.{Pinned}
use Rattle.jz_operations.specs.declared.operation.Address.{Address}
use Rattle.jz_operations.specs.declared.operation.Arg.{Arg}
use Rattle.jz_operations.specs.declared.operation.Arg.TheVariants as arg
use Rattle.jz_operations.specs.declared.operation.Action.{Action}
use Rattle.jz_operations.specs.declared.operation.Action.TheVariants as action
use Rattle.jz_operations.specs.declared.operation.Flags.{Flags}
use Rattle.jz_change.specs.declared.change.Numbers.{Numbers}
use Rattle.jz_change.specs.declared.change.Numbers.TheVariants.{These}
use Rattle.jz_homes.specs.Homes.{Homes, in_flag}
use Rattle.jz_homes.specs.Sums.{Sum, IsSum}
use Rattle.jz_homes.specs.Operands.{Leaks, silent, count_of, IsArg, IsDest}
use Rattle.jz_row_operations.specs.Codes.{no_flag}
use Rattle.jz_row_operations.specs.Rows.{NotImm}
use Rattle.jz_row_operations.specs.Table.{two_code, one_code}
use Rattle.jz_row_operations.specs.Lowering.{numbers_from, two_shown, one_shown, HasRow}
use Rattle.jz_flag_rows.specs.Results.{IsPinned, AreFive, AreFour, AreTwo}
use Rattle.jz_flag_rows.specs.Wide.{IsLong, is_apart, wide_code, wide_shown, divide_two_code, divide_two_shown}
use Rattle.jz_flag_rows.specs.Instructions.{NotAccess, swap_code, IsLeaAddress, IsCount, count_code}

-- ---- forms
-- an operation that may swap its operands has `true`
pub data Form : Type 0 where
  f_two : Alu → Bool → Form
  f_carried : Alu → Bool → Form
  f_one : One → Form
  f_swap : Form
  f_address : Form
  f_compare : Alu → Form
  f_shift : Shift → Form
  f_times : Form
  f_wide : Form
  f_divide : Form
  f_byte : Form

-- no flag; OF and CF; all but CF; all five
pub data Lead : Type 0 where
  l_none : Lead
  l_two : Lead
  l_four : Lead
  l_five : Lead

abbrev pub form_of : Intrinsic → Form
form_of name.Add = f_two alu.Add true
form_of name.Sub = f_two alu.Sub false
form_of name.And = f_two alu.And true
form_of name.Or = f_two alu.Or true
form_of name.Xor = f_two alu.Xor true
form_of name.Adc = f_carried alu.Adc true
form_of name.Sbb = f_carried alu.Sbb false
form_of name.Neg = f_one one.Neg
form_of name.Inc = f_one one.Inc
form_of name.Dec = f_one one.Dec
form_of name.Not = f_one one.Not
form_of name.Bswap = f_swap
form_of name.Lea = f_address
form_of name.Cmp = f_compare alu.Cmp
form_of name.Test = f_compare alu.Test
form_of name.Shl = f_shift shift.Shl
form_of name.Shr = f_shift shift.Shr
form_of name.Sar = f_shift shift.Sar
form_of name.Rol = f_shift shift.Rol
form_of name.Ror = f_shift shift.Ror
form_of name.Imul = f_times
form_of name.Mul = f_wide
form_of name.Div = f_divide
form_of name.Setcc = f_byte

abbrev pub lead_of : Intrinsic → Lead
lead_of name.Inc = l_four
lead_of name.Dec = l_four
lead_of name.Not = l_none
lead_of name.Bswap = l_none
lead_of name.Lea = l_none
lead_of name.Rol = l_two
lead_of name.Ror = l_two
lead_of name.Setcc = l_none
lead_of _ = l_five

-- the left sides that are flags, and those behind them
abbrev pub AreLed : Homes → Lead → List Lval → Flags → List Lval → Type 0
AreLed home l_none to fl rest = (fl ≡ no_flag) × (rest ≡ to)
AreLed home l_two to fl rest = AreTwo home to fl rest
AreLed home l_four to fl rest = AreFour home to fl rest
AreLed home l_five to fl rest = AreFive home to fl rest

-- ---- numbers of results and operands
abbrev pub OneOne : (Lval → Expr → Type 0) → List Lval → List Expr → Type 0
OneOne P (d ∷ []) (a ∷ []) = P d a
OneOne P _ _ = ⊥

abbrev pub OneTwo : (Lval → Expr → Expr → Type 0) → List Lval → List Expr → Type 0
OneTwo P (d ∷ []) (a ∷ b ∷ []) = P d a b
OneTwo P _ _ = ⊥

abbrev pub OneThree : (Lval → Expr → Expr → Expr → Type 0) → List Lval → List Expr → Type 0
OneThree P (d ∷ []) (a ∷ b ∷ c ∷ []) = P d a b c
OneThree P _ _ = ⊥

abbrev pub NoneTwo : (Expr → Expr → Type 0) → List Lval → List Expr → Type 0
NoneTwo P [] (a ∷ b ∷ []) = P a b
NoneTwo P _ _ = ⊥

abbrev pub TwoTwo : (Lval → Lval → Expr → Expr → Type 0) → List Lval → List Expr → Type 0
TwoTwo P (d ∷ e ∷ []) (a ∷ b ∷ []) = P d e a b
TwoTwo P _ _ = ⊥

abbrev pub TwoThree : (Lval → Lval → Expr → Expr → Expr → Type 0) → List Lval → List Expr → Type 0
TwoThree P (d ∷ e ∷ []) (a ∷ b ∷ c ∷ []) = P d e a b c
TwoThree P _ _ = ⊥

-- ---- the rows behind the flags
-- two operands, and a flag that is read or none
pub record IsTwo (home : Homes) (z : Size) (k : Alu) (swaps : Bool) (carry : Option Pinned)
    (d : Lval) (a b : Expr) (acts : List Action) (items : List Numbers) : Type 0 where
  pub x : Arg
  pub y : Arg
  pub to : Arg
  pub p : Leaks
  pub q : Leaks
  pub r : Leaks
  pub first : IsArg home z a x p
  pub second : IsArg home z b y q
  pub dest : IsDest home z d to r
  pub code : two_code k swaps z to x y carry ≡ Some acts
  pub shown : items ≡ two_shown swaps to x y p q

pub record IsCarried (home : Homes) (z : Size) (k : Alu) (swaps : Bool)
    (d : Lval) (a b c : Expr) (acts : List Action) (items : List Numbers) : Type 0 where
  pub flag : Var
  pub carry : Pinned
  pub is_flag : c ≡ expr.Var flag
  pub home_is : home (key_of (ref_of flag)) ≡ Some (in_flag carry.variable)
  pub span_is : carry.span ≡ (ref_of flag).span
  pub row : IsTwo home z k swaps (Some carry) d a b acts items

pub record IsOne (home : Homes) (z : Size) (k : One)
    (d : Lval) (a : Expr) (acts : List Action) (items : List Numbers) : Type 0 where
  pub x : Arg
  pub to : Arg
  pub p : Leaks
  pub r : Leaks
  pub operand : IsArg home z a x p
  pub dest : IsDest home z d to r
  pub code : one_code k z to x ≡ Some acts
  pub shown : items ≡ one_shown to x p

pub record IsSwap (home : Homes) (z : Size)
    (d : Lval) (a : Expr) (acts : List Action) (items : List Numbers) : Type 0 where
  pub x : Arg
  pub v : ℕ
  pub p : Leaks
  pub long : IsLong z
  pub operand : IsArg home z a x p
  pub dest : IsDest home z d (arg.Var v) silent
  pub code : swap_code z v x ≡ Some acts
  pub shown : items ≡ one_shown (arg.Var v) x p

pub record IsLea (home : Homes)
    (d : Lval) (a : Expr) (acts : List Action) (items : List Numbers) : Type 0 where
  pub sum : Sum
  pub found : Address
  pub v : ℕ
  pub is_sum : IsSum home a sum
  pub is_address : IsLeaAddress sum found
  pub dest : IsDest home S64 d (arg.Var v) silent
  pub code : acts ≡ action.Lea v found ∷ []
  pub shown : items ≡ These [] ∷ []

pub record IsComparison (home : Homes) (z : Size) (k : Alu)
    (a b : Expr) (acts : List Action) (items : List Numbers) : Type 0 where
  pub x : Arg
  pub y : Arg
  pub p : Leaks
  pub q : Leaks
  pub first : IsArg home z a x p
  pub second : IsArg home z b y q
  pub no_number : NotImm x
  pub no_access : NotAccess y
  pub code : acts ≡ action.Alu k z x y None ∷ []
  pub shown : items ≡ These (numbers_from p 0 ++ numbers_from q (count_of p)) ∷ []

pub record IsCounted (home : Homes) (z : Size) (k : Shift)
    (d : Lval) (a b : Expr) (acts : List Action) (items : List Numbers) : Type 0 where
  pub x : Arg
  pub to : Arg
  pub places : Option Pinned
  pub number : ℕ
  pub p : Leaks
  pub r : Leaks
  pub operand : IsArg home z a x p
  pub count : IsCount home z b places number
  pub dest : IsDest home z d to r
  pub code : count_code k z to x places number ≡ Some acts
  pub shown : items ≡ one_shown to x p

-- `h, l = a * b`, of an assignment too
pub record IsWideProduct (home : Homes) (z : Size)
    (h l : Lval) (a b : Expr) (acts : List Action) (items : List Numbers) : Type 0 where
  pub upper : Option Pinned
  pub lower : Option Pinned
  pub x : Arg
  pub y : Arg
  pub p : Leaks
  pub q : Leaks
  pub long : IsLong z
  pub high : IsPinned home z h upper
  pub low : IsPinned home z l lower
  pub first : IsArg home z a x p
  pub second : IsArg home z b y q
  pub no_number : NotImm y
  pub code : wide_code z upper lower x y ≡ Some acts
  pub shown : items ≡ wide_shown lower x y p q

pub record IsLongDivision (home : Homes) (z : Size)
    (q r : Lval) (hi lo c : Expr) (acts : List Action) (items : List Numbers) : Type 0 where
  pub quotient : Option Pinned
  pub remainder : Option Pinned
  pub x : Arg
  pub y : Arg
  pub w : Arg
  pub p : Leaks
  pub s : Leaks
  pub u : Leaks
  pub long : IsLong z
  pub first_to : IsPinned home z q quotient
  pub second_to : IsPinned home z r remainder
  pub high : IsArg home z hi x p
  pub low : IsArg home z lo y s
  pub by : IsArg home z c w u
  pub no_number : NotImm w
  pub high_apart : is_apart quotient x ≡ true
  pub quotient_apart : is_apart quotient w ≡ true
  pub remainder_apart : is_apart remainder w ≡ true
  pub code : acts ≡ divide_two_code z quotient remainder x y w
  pub shown : items ≡ divide_two_shown p s u

-- a signed product has the row of `d = a * b`
abbrev pub HasForm : Homes → Size → Form → List Lval → List Expr → List Action → List Numbers → Type 0
HasForm home z (f_two k s) to es acts is = OneTwo (λ d a b. IsTwo home z k s None d a b acts is) to es
HasForm home z (f_carried k s) to es acts is =
    OneThree (λ d a b c. IsCarried home z k s d a b c acts is) to es
HasForm home z (f_one k) to es acts is = OneOne (λ d a. IsOne home z k d a acts is) to es
HasForm home z f_swap to es acts is = OneOne (λ d a. IsSwap home z d a acts is) to es
HasForm home z f_address to es acts is = OneOne (λ d a. IsLea home d a acts is) to es
HasForm home z (f_compare k) to es acts is =
    NoneTwo (λ a b. IsComparison home z k a b acts is) to es
HasForm home z (f_shift k) to es acts is = OneTwo (λ d a b. IsCounted home z k d a b acts is) to es
HasForm home z f_times to es acts is =
    OneTwo (λ d a b. HasRow home z d (expr.Bin op.Mul a b (left_span d)) acts is) to es
HasForm home z f_wide to es acts is =
    TwoTwo (λ h l a b. IsWideProduct home z h l a b acts is) to es
HasForm home z f_divide to es acts is =
    TwoThree (λ q r hi lo c. IsLongDivision home z q r hi lo c acts is) to es
HasForm home z f_byte to es acts is = ⊥

-- an intrinsic but SETcc, with its flags
pub record IsFormed (home : Homes) (z : Size) (i : Intrinsic) (to : List Lval) (es : List Expr)
    (fl : Flags) (acts : List Action) (items : List Numbers) : Type 0 where
  pub rest : List Lval
  pub led : AreLed home (lead_of i) to fl rest
  pub row : HasForm home z (form_of i) rest es acts items
