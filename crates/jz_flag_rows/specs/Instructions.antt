-- The actions of an intrinsic, by its name, its results and its operands.
use Rattle.std.specs.Prelude.{◌≡◌, ◌<◌, ℕ, Bool, true, false, not, List, [], ◌∷◌, ◌++◌, Option, Some, None, ℤ, pos, ⊤}
use Rattle.jz_words.specs.declared.size.Size.{Size}
use Rattle.jz_words.specs.declared.size.Size.TheVariants.{S8, S64}
use Rattle.jz_words.specs.Sizes.{bits_of}
use Rattle.jz_words.specs.Readings.{reading_of}
use Rattle.x64_insn.specs.declared.types.Alu.{Alu}
use Rattle.x64_insn.specs.declared.types.Alu.TheVariants as alu
use Rattle.x64_insn.specs.declared.types.One.{One}
use Rattle.x64_insn.specs.declared.types.One.TheVariants as one
use Rattle.x64_insn.specs.declared.types.Shift.{Shift}
use Rattle.x64_insn.specs.declared.types.Shift.TheVariants as shift
use Rattle.jz_io.specs.declared.span.Span.{Span}
use Rattle.jz_tree.specs.declared.intrinsic.Intrinsic.{Intrinsic}
use Rattle.jz_tree.specs.declared.intrinsic.Intrinsic.TheVariants as name
use Rattle.jz_tree.specs.declared.expr.BinOp.TheVariants as op
use Rattle.jz_tree.specs.declared.expr.Expr.{Expr}
use Rattle.jz_tree.specs.declared.expr.Expr.TheVariants as expr
use Rattle.jz_tree.specs.declared.expr.Var.{Var}
use Rattle.jz_tree.specs.declared.stmt.Lval.{Lval}
use Rattle.jz_meaning.specs.Values.{key_of, ref_of}
use Rattle.jz_operations.specs.declared.operation.Pinned.{Pinned}
use Rattle.jz_operations.specs.declared.operation.Address.{Address}
use Rattle.jz_operations.specs.declared.operation.Arg.{Arg}
use Rattle.jz_operations.specs.declared.operation.Arg.TheVariants as arg
use Rattle.jz_operations.specs.declared.operation.Action.{Action}
use Rattle.jz_operations.specs.declared.operation.Action.TheVariants as action
use Rattle.jz_operations.specs.declared.operation.Flags.{Flags}
use Rattle.jz_change.specs.declared.change.Numbers.{Numbers}
use Rattle.jz_change.specs.declared.change.Numbers.TheVariants.{These}
use Rattle.jz_homes.specs.Homes.{Homes, in_register, in_flag}
use Rattle.jz_homes.specs.Sums.{Sum, sum_of, IsSum, IsAddress}
use Rattle.jz_homes.specs.Operands.{Leaks, silent, count_of, IsArg, IsDest}
use Rattle.jz_row_operations.specs.Codes.{no_flag}
use Rattle.jz_row_operations.specs.Rows.{IsWide, NotImm, mask_of}
use Rattle.jz_row_operations.specs.Table.{is_imm, nothing, brought, behind, two_code, one_code, times_code, times_by_code, shift_code, shift_by_code}
use Rattle.jz_row_operations.specs.Lowering.{numbers_from, two_shown, one_shown}
use Rattle.jz_flag_rows.specs.Results.{IsPinned, AreFive, AreFour, AreTwo}
use Rattle.jz_flag_rows.specs.Wide.{IsLong, is_apart, wide_code, wide_shown, divide_two_code, divide_two_shown}

-- ---- names
-- of two operands: the operation, and whether the operands may be swapped
abbrev pub two_of : Intrinsic → Option (Alu × Bool)
two_of name.Add = Some (alu.Add, true)
two_of name.Sub = Some (alu.Sub, false)
two_of name.And = Some (alu.And, true)
two_of name.Or = Some (alu.Or, true)
two_of name.Xor = Some (alu.Xor, true)
two_of _ = None

abbrev pub carry_of : Intrinsic → Option (Alu × Bool)
carry_of name.Adc = Some (alu.Adc, true)
carry_of name.Sbb = Some (alu.Sbb, false)
carry_of _ = None

-- those that write no operand
abbrev pub compare_of : Intrinsic → Option Alu
compare_of name.Cmp = Some alu.Cmp
compare_of name.Test = Some alu.Test
compare_of _ = None

-- INC and DEC keep CF
abbrev pub step_of : Intrinsic → Option One
step_of name.Inc = Some one.Inc
step_of name.Dec = Some one.Dec
step_of _ = None

abbrev pub shift_named : Intrinsic → Option Shift
shift_named name.Shl = Some shift.Shl
shift_named name.Shr = Some shift.Shr
shift_named name.Sar = Some shift.Sar
shift_named _ = None

abbrev pub rotation_named : Intrinsic → Option Shift
rotation_named name.Rol = Some shift.Rol
rotation_named name.Ror = Some shift.Ror
rotation_named _ = None

-- an operand that is no access: a variable or a number
abbrev pub NotAccess : Arg → Type 0
NotAccess (arg.Mem a) = ⊥
NotAccess (arg.Cell c) = ⊥
NotAccess _ = ⊤

-- ---- BSWAP writes a variable
abbrev pub swap_code : Size → ℕ → Arg → Option (List Action)
swap_code z v a = behind (λ x. action.Bswap z v) (brought false z (arg.Var v) a nothing)

-- ---- the address of LEA may lack the base
pub data IsLeaAddress : Sum → Address → Type 0 where
  with_base : {t : Sum} {m : Address} → IsAddress t m → IsLeaAddress t m
  a_number :
      (i : ℤ)
      → IsLeaAddress (sum_of [] i)
      (record { base = None; index = None; disp = reading_of S64 i })
  an_index :
      (j k : ℕ) (i : ℤ) → (k ≡ 1 → ⊥)
      → IsLeaAddress (sum_of ((j, k) ∷ []) i)
      (record { base = None; index = Some (j, k); disp = reading_of S64 i })

-- ---- counts
-- a number below the size, or a byte in CL with the mask of the size
pub data IsCount (home : Homes) (z : Size) : Expr → Option Pinned → ℕ → Type 0 where
  by_number : (n : ℕ) (at : Span) → n < bits_of z → IsCount home z (expr.Num (pos n) at) None n
  by_variable :
      (v : Var) (k : Pinned) (there here : Span)
      → home (key_of (ref_of v)) ≡ Some (in_register k.variable S8) → k.span ≡ (ref_of v).span
      → IsCount home z
      (expr.Bin op.And (expr.Var v) (expr.Num (pos (mask_of z)) there) here) (Some k) 0

abbrev pub count_code : Shift → Size → Arg → Arg → Option Pinned → ℕ → Option (List Action)
count_code kind z d a None n = shift_code kind z d a n
count_code kind z d a (Some k) n = shift_by_code kind z d a k

-- ---- the rows
-- The results, the operands, the variables of the flags, the actions, and what each of them shows.
-- Each operand is one by itself: two numbers are two operands here, which in `a + o` are one.
pub data HasInstruction (home : Homes) (z : Size) :
    Intrinsic → List Lval → List Expr → Flags → List Action → List Numbers → Type 0 where
  two_operands :
      {i : Intrinsic} {k : Alu × Bool} {to : List Lval} {d : Lval} {a c : Expr} {x y b : Arg}
      {p q r : Leaks} {fl : Flags} {acts : List Action}
      → two_of i ≡ Some k → AreFive home to fl (d ∷ [])
      → IsArg home z a x p → IsArg home z c y q → IsDest home z d b r
      → two_code k.0 k.1 z b x y None ≡ Some acts
      → HasInstruction home z i to (a ∷ c ∷ []) fl acts (two_shown k.1 b x y p q)
  with_carry :
      {i : Intrinsic} {k : Alu × Bool} {to : List Lval} {d : Lval} {a c : Expr} {x y b : Arg}
      {p q r : Leaks} {fl : Flags} {acts : List Action} (f : Var) (carry : Pinned)
      → carry_of i ≡ Some k → AreFive home to fl (d ∷ [])
      → IsArg home z a x p → IsArg home z c y q → IsDest home z d b r
      → home (key_of (ref_of f)) ≡ Some (in_flag carry.variable)
      → carry.span ≡ (ref_of f).span
      → two_code k.0 k.1 z b x y (Some carry) ≡ Some acts
      → HasInstruction home z i to (a ∷ c ∷ expr.Var f ∷ []) fl acts (two_shown k.1 b x y p q)
  minus :
      {to : List Lval} {d : Lval} {a : Expr} {x b : Arg} {p r : Leaks} {fl : Flags}
      {acts : List Action}
      → AreFive home to fl (d ∷ []) → IsArg home z a x p → IsDest home z d b r
      → one_code one.Neg z b x ≡ Some acts
      → HasInstruction home z name.Neg to (a ∷ []) fl acts (one_shown b x p)
  steps :
      {i : Intrinsic} {k : One} {to : List Lval} {d : Lval} {a : Expr} {x b : Arg} {p r : Leaks}
      {fl : Flags} {acts : List Action}
      → step_of i ≡ Some k → AreFour home to fl (d ∷ []) → IsArg home z a x p
      → IsDest home z d b r → one_code k z b x ≡ Some acts
      → HasInstruction home z i to (a ∷ []) fl acts (one_shown b x p)
  complement :
      {d : Lval} {a : Expr} {x b : Arg} {p r : Leaks} {acts : List Action}
      → IsArg home z a x p → IsDest home z d b r → one_code one.Not z b x ≡ Some acts
      → HasInstruction home z name.Not (d ∷ []) (a ∷ []) no_flag acts (one_shown b x p)
  swap :
      {d : Lval} {a : Expr} {x : Arg} {v : ℕ} {p : Leaks} {acts : List Action}
      → IsLong z → IsArg home z a x p → IsDest home z d (arg.Var v) silent
      → swap_code z v x ≡ Some acts
      → HasInstruction home z name.Bswap (d ∷ []) (a ∷ []) no_flag acts (one_shown (arg.Var v) x p)
  address :
      {d : Lval} {a : Expr} {t : Sum} {m : Address} {v : ℕ}
      → IsSum home a t → IsLeaAddress t m → IsDest home S64 d (arg.Var v) silent
      → HasInstruction home z name.Lea (d ∷ []) (a ∷ []) no_flag (action.Lea v m ∷ [])
      (These [] ∷ [])
  compares :
      {i : Intrinsic} {k : Alu} {to : List Lval} {a c : Expr} {x y : Arg} {p q : Leaks}
      {fl : Flags}
      → compare_of i ≡ Some k → AreFive home to fl [] → IsArg home z a x p → IsArg home z c y q
      → NotImm x → NotAccess y
      → HasInstruction home z i to (a ∷ c ∷ []) fl (action.Alu k z x y None ∷ [])
      (These (numbers_from p 0 ++ numbers_from q (count_of p)) ∷ [])
  shifts :
      {i : Intrinsic} {k : Shift} {to : List Lval} {d : Lval} {a c : Expr} {x b : Arg}
      {n : Option Pinned} {m : ℕ} {p r : Leaks} {fl : Flags} {acts : List Action}
      → shift_named i ≡ Some k → AreFive home to fl (d ∷ []) → IsArg home z a x p
      → IsCount home z c n m → IsDest home z d b r → count_code k z b x n m ≡ Some acts
      → HasInstruction home z i to (a ∷ c ∷ []) fl acts (one_shown b x p)
  rotates :
      {i : Intrinsic} {k : Shift} {to : List Lval} {d : Lval} {a c : Expr} {x b : Arg}
      {n : Option Pinned} {m : ℕ} {p r : Leaks} {fl : Flags} {acts : List Action}
      → rotation_named i ≡ Some k → AreTwo home to fl (d ∷ []) → IsArg home z a x p
      → IsCount home z c n m → IsDest home z d b r → count_code k z b x n m ≡ Some acts
      → HasInstruction home z i to (a ∷ c ∷ []) fl acts (one_shown b x p)
  times :
      {to : List Lval} {d : Lval} {a c : Expr} {x y : Arg} {v : ℕ} {p q : Leaks} {fl : Flags}
      {acts : List Action}
      → IsWide z → AreFive home to fl (d ∷ []) → IsArg home z a x p → IsArg home z c y q
      → IsDest home z d (arg.Var v) silent → NotImm y → times_code z v x y ≡ Some acts
      → HasInstruction home z name.Imul to (a ∷ c ∷ []) fl acts
      (two_shown (not (is_imm x)) (arg.Var v) x y p q)
  times_by :
      {to : List Lval} {d : Lval} {a c : Expr} {x : Arg} {i : ℤ} {v : ℕ} {p : Leaks} {fl : Flags}
      → IsWide z → AreFive home to fl (d ∷ []) → IsArg home z a x p
      → IsArg home z c (arg.Imm i) silent → IsDest home z d (arg.Var v) silent → NotImm x
      → HasInstruction home z name.Imul to (a ∷ c ∷ []) fl (times_by_code z v x i)
      (These (numbers_from p 0) ∷ [])
  wide_product :
      {to : List Lval} {h l : Lval} {hk lk : Option Pinned} {a c : Expr} {x y : Arg} {p q : Leaks}
      {fl : Flags} {acts : List Action}
      → IsLong z → AreFive home to fl (h ∷ l ∷ []) → IsPinned home z h hk → IsPinned home z l lk
      → IsArg home z a x p → IsArg home z c y q → NotImm y
      → wide_code z hk lk x y ≡ Some acts
      → HasInstruction home z name.Mul to (a ∷ c ∷ []) fl acts (wide_shown lk x y p q)
  division :
      {to : List Lval} {q r : Lval} {qk rk : Option Pinned} {hi lo c : Expr} {x y w : Arg}
      {p s u : Leaks} {fl : Flags}
      → IsLong z → AreFive home to fl (q ∷ r ∷ []) → IsPinned home z q qk → IsPinned home z r rk
      → IsArg home z hi x p → IsArg home z lo y s → IsArg home z c w u → NotImm w
      → is_apart qk x ≡ true → is_apart qk w ≡ true → is_apart rk w ≡ true
      → HasInstruction home z name.Div to (hi ∷ lo ∷ c ∷ []) fl
      (divide_two_code z qk rk x y w)
      (divide_two_shown p s u)
