-- The operators of the pattern table.
use Rattle.std.specs.Prelude.{ℕ, Bool, true, false, Option, Some, None, ⊤}
use Rattle.jz_words.specs.declared.size.Size.{Size}
use Rattle.jz_words.specs.declared.size.Size.TheVariants.{S8, S64}
use Rattle.x64_insn.specs.declared.types.Alu.{Alu}
use Rattle.x64_insn.specs.declared.types.Alu.TheVariants as alu
use Rattle.x64_insn.specs.declared.types.One.{One}
use Rattle.x64_insn.specs.declared.types.One.TheVariants as one
use Rattle.x64_insn.specs.declared.types.Shift.{Shift}
use Rattle.x64_insn.specs.declared.types.Shift.TheVariants as shift
use Rattle.x64_insn.specs.declared.types.Cond.{Cond}
use Rattle.x64_insn.specs.declared.types.Cond.TheVariants as cond
use Rattle.jz_io.specs.declared.span.Span.{Span}
use Rattle.jz_tree.specs.declared.expr.Expr.{Expr}
use Rattle.jz_tree.specs.declared.expr.Expr.TheVariants as expr
use Rattle.jz_tree.specs.declared.expr.BinOp.{BinOp}
use Rattle.jz_tree.specs.declared.expr.BinOp.TheVariants as op
use Rattle.jz_operations.specs.declared.operation.Arg.{Arg}
use Rattle.jz_operations.specs.declared.operation.Arg.TheVariants as arg

-- 16, 32 and 64 bits
abbrev pub IsWide : Size → Type 0
IsWide S8 = ⊥
IsWide _ = ⊤

-- an operand that is no immediate
abbrev pub NotImm : Arg → Type 0
NotImm (arg.Imm i) = ⊥
NotImm _ = ⊤

-- two operands that are not both immediates
abbrev pub NotBothImm : Arg → Arg → Type 0
NotBothImm (arg.Imm i) (arg.Imm j) = ⊥
NotBothImm _ _ = ⊤

-- `+ - & | ^`
abbrev pub IsSumOp : BinOp → Type 0
IsSumOp op.Add = ⊤
IsSumOp op.Sub = ⊤
IsSumOp op.And = ⊤
IsSumOp op.Or = ⊤
IsSumOp op.Xor = ⊤
IsSumOp _ = ⊥

abbrev pub alu_of : BinOp → Alu
alu_of op.Add = alu.Add
alu_of op.Sub = alu.Sub
alu_of op.And = alu.And
alu_of op.Or = alu.Or
alu_of _ = alu.Xor

-- the operands may be swapped
abbrev pub commutes : BinOp → Bool
commutes op.Add = true
commutes op.And = true
commutes op.Or = true
commutes op.Xor = true
commutes _ = false

-- `+ -` with a flag behind
abbrev pub IsCarryOp : BinOp → Type 0
IsCarryOp op.Add = ⊤
IsCarryOp op.Sub = ⊤
IsCarryOp _ = ⊥

abbrev pub carry_alu : BinOp → Alu
carry_alu op.Add = alu.Adc
carry_alu _ = alu.Sbb

-- `-` and `!` before one operand
pub data IsSign : One → Expr → Expr → Type 0 where
  a_minus : (a : Expr) (at : Span) → IsSign one.Neg (expr.Neg a at) a
  a_not : (a : Expr) (at : Span) → IsSign one.Not (expr.Not a at) a

-- `<< >> >>s <<r >>r`
abbrev pub IsShiftOp : BinOp → Type 0
IsShiftOp op.Shl = ⊤
IsShiftOp op.Shr = ⊤
IsShiftOp op.Sar = ⊤
IsShiftOp op.Rol = ⊤
IsShiftOp op.Ror = ⊤
IsShiftOp _ = ⊥

abbrev pub shift_of : BinOp → Shift
shift_of op.Shl = shift.Shl
shift_of op.Shr = shift.Shr
shift_of op.Sar = shift.Sar
shift_of op.Rol = shift.Rol
shift_of _ = shift.Ror

-- what a count is masked with, 63 at 64 bits
abbrev pub mask_of : Size → ℕ
mask_of S64 = 63
mask_of _ = 31

-- the condition behind CMP that holds where the comparison does
abbrev pub cond_of : BinOp → Option Cond
cond_of op.Eq = Some cond.E
cond_of op.Ne = Some cond.Ne
cond_of op.Lt = Some cond.B
cond_of op.Le = Some cond.Be
cond_of op.Gt = Some cond.A
cond_of op.Ge = Some cond.Ae
cond_of op.LtS = Some cond.L
cond_of op.LeS = Some cond.Le
cond_of op.GtS = Some cond.G
cond_of op.GeS = Some cond.Ge
cond_of _ = None

-- the condition that holds where another one does not
abbrev pub opposite : Cond → Cond
opposite cond.O = cond.No
opposite cond.No = cond.O
opposite cond.B = cond.Ae
opposite cond.Ae = cond.B
opposite cond.E = cond.Ne
opposite cond.Ne = cond.E
opposite cond.Be = cond.A
opposite cond.A = cond.Be
opposite cond.S = cond.Ns
opposite cond.Ns = cond.S
opposite cond.P = cond.Np
opposite cond.Np = cond.P
opposite cond.L = cond.Ge
opposite cond.Ge = cond.L
opposite cond.Le = cond.G
opposite cond.G = cond.Le
