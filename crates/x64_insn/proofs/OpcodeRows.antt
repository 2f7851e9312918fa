-- The opcodes that are chosen have the rows that their instructions need.
use Rattle.std.proofs.Common.{◌≡◌, ℕ, ◌+◌, ◌*◌, ◌%◌, ◌<◌, true, false, Some, None, refl, ap, ◌∙◌, arith}
use Rattle.std.proofs.lemmas.Bool.{true≢false}
use Rattle.std.proofs.lemmas.Bool.Decides.{nat_tests}
use Rattle.jz_words.specs.declared.size.Size.{Size}
use Rattle.jz_words.specs.declared.size.Size.TheVariants.{S8, S16, S32, S64}
use Rattle.x64_insn.specs.declared.types.Alu.{Alu}
use Rattle.x64_insn.specs.declared.types.Alu.TheVariants as alu
use Rattle.x64_insn.specs.declared.types.Shift.{Shift}
use Rattle.x64_insn.specs.declared.types.Shift.TheVariants as shift
use Rattle.x64_insn.specs.declared.types.Cond.{Cond}
use Rattle.x64_insn.specs.declared.types.Cond.TheVariants as cond
use Rattle.x64_insn.specs.declared.types.Width.TheVariants.{Rel8, Rel32}
use Rattle.x64_insn.specs.declared.table.Operands.{Operands}
use Rattle.x64_insn.specs.declared.table.Operands.TheVariants.{Bytes, Sized}
use Rattle.x64_insn.specs.declared.table.Row.{Row}
use Rattle.x64_insn.specs.declared.table.Row.TheVariants as row
use Rattle.x64_insn.specs.Table.{operation_of, condition_of, one_byte_row, escaped_row, row_of, is_shift_number}
use Rattle.x64_insn.specs.Encoding.{shift_of}
use Rattle.x64_insn.specs.Chosen.{alu_number, condition_number, shift_number, opcode_for, is_test}
use Rattle.x64_insn.proofs.Numbers.{operation_of_number}
use Rattle.x64_insn.proofs.RexBits.{operands_for}

-- a pair of opcodes
pair_row : (w : Operands → Row) (o : ℕ) → row_of None o ≡ Some (w Bytes) → row_of None (o + 1) ≡ Some (w Sized) → (size : Size) → row_of None (opcode_for size o) ≡ Some (w (operands_for size))
pair_row w o p q S8 = p
pair_row w o p q S16 = q
pair_row w o p q S32 = q
pair_row w o p q S64 = q

rm_reg_bytes : (a : Alu) → is_test a ≡ false → row_of None (8 * alu_number a) ≡ Some (row.AluRmReg a Bytes)
unfolding one_byte_row operation_of
rm_reg_bytes alu.Add h = refl
rm_reg_bytes alu.Or h = refl
rm_reg_bytes alu.Adc h = refl
rm_reg_bytes alu.Sbb h = refl
rm_reg_bytes alu.And h = refl
rm_reg_bytes alu.Sub h = refl
rm_reg_bytes alu.Xor h = refl
rm_reg_bytes alu.Cmp h = refl
rm_reg_bytes alu.Test h = absurd (true≢false h)

rm_reg_sized : (a : Alu) → is_test a ≡ false → row_of None (8 * alu_number a + 1) ≡ Some (row.AluRmReg a Sized)
unfolding one_byte_row operation_of
rm_reg_sized alu.Add h = refl
rm_reg_sized alu.Or h = refl
rm_reg_sized alu.Adc h = refl
rm_reg_sized alu.Sbb h = refl
rm_reg_sized alu.And h = refl
rm_reg_sized alu.Sub h = refl
rm_reg_sized alu.Xor h = refl
rm_reg_sized alu.Cmp h = refl
rm_reg_sized alu.Test h = absurd (true≢false h)

reg_rm_bytes : (a : Alu) → is_test a ≡ false → row_of None (8 * alu_number a + 2) ≡ Some (row.AluRegRm a Bytes)
unfolding one_byte_row operation_of
reg_rm_bytes alu.Add h = refl
reg_rm_bytes alu.Or h = refl
reg_rm_bytes alu.Adc h = refl
reg_rm_bytes alu.Sbb h = refl
reg_rm_bytes alu.And h = refl
reg_rm_bytes alu.Sub h = refl
reg_rm_bytes alu.Xor h = refl
reg_rm_bytes alu.Cmp h = refl
reg_rm_bytes alu.Test h = absurd (true≢false h)

reg_rm_sized : (a : Alu) → is_test a ≡ false → row_of None (8 * alu_number a + 2 + 1) ≡ Some (row.AluRegRm a Sized)
unfolding one_byte_row operation_of
reg_rm_sized alu.Add h = refl
reg_rm_sized alu.Or h = refl
reg_rm_sized alu.Adc h = refl
reg_rm_sized alu.Sbb h = refl
reg_rm_sized alu.And h = refl
reg_rm_sized alu.Sub h = refl
reg_rm_sized alu.Xor h = refl
reg_rm_sized alu.Cmp h = refl
reg_rm_sized alu.Test h = absurd (true≢false h)

pub rm_reg_row : (a : Alu) (size : Size) → is_test a ≡ false → row_of None (opcode_for size (8 * alu_number a)) ≡ Some (row.AluRmReg a (operands_for size))
rm_reg_row a size h = pair_row (λ o. row.AluRmReg a o) (8 * alu_number a) (rm_reg_bytes a h) (rm_reg_sized a h) size

pub reg_rm_row : (a : Alu) (size : Size) → is_test a ≡ false → row_of None (opcode_for size (8 * alu_number a + 2)) ≡ Some (row.AluRegRm a (operands_for size))
reg_rm_row a size h = pair_row (λ o. row.AluRegRm a o) (8 * alu_number a + 2) (reg_rm_bytes a h) (reg_rm_sized a h) size

pub test_row : (size : Size) → row_of None (opcode_for size 0x84) ≡ Some (row.AluRmReg alu.Test (operands_for size))
unfolding one_byte_row
test_row size = pair_row (λ o. row.AluRmReg alu.Test o) 0x84 refl refl size

pub mov_rm_reg_row : (size : Size) → row_of None (opcode_for size 0x88) ≡ Some (row.MovRmReg (operands_for size))
unfolding one_byte_row
mov_rm_reg_row size = pair_row (λ o. row.MovRmReg o) 0x88 refl refl size

pub mov_reg_rm_row : (size : Size) → row_of None (opcode_for size 0x8A) ≡ Some (row.MovRegRm (operands_for size))
unfolding one_byte_row
mov_reg_rm_row size = pair_row (λ o. row.MovRegRm o) 0x8A refl refl size

pub alu_imm_row : (size : Size) → row_of None (opcode_for size 0x80) ≡ Some (row.AluRmImm (operands_for size))
unfolding one_byte_row
alu_imm_row size = pair_row (λ o. row.AluRmImm o) 0x80 refl refl size

pub mov_imm_row : (size : Size) → row_of None (opcode_for size 0xC6) ≡ Some (row.MovRmImm (operands_for size))
unfolding one_byte_row
mov_imm_row size = pair_row (λ o. row.MovRmImm o) 0xC6 refl refl size

pub group3_row : (size : Size) → row_of None (opcode_for size 0xF6) ≡ Some (row.Group3 (operands_for size))
unfolding one_byte_row
group3_row size = pair_row (λ o. row.Group3 o) 0xF6 refl refl size

pub inc_dec_row : (size : Size) → row_of None (opcode_for size 0xFE) ≡ Some (row.IncDec (operands_for size))
unfolding one_byte_row
inc_dec_row size = pair_row (λ o. row.IncDec o) 0xFE refl refl size

pub shift_imm_row : (size : Size) → row_of None (opcode_for size 0xC0) ≡ Some (row.ShiftImm (operands_for size))
unfolding one_byte_row
shift_imm_row size = pair_row (λ o. row.ShiftImm o) 0xC0 refl refl size

pub shift_one_row : (size : Size) → row_of None (opcode_for size 0xD0) ≡ Some (row.ShiftOne (operands_for size))
unfolding one_byte_row
shift_one_row size = pair_row (λ o. row.ShiftOne o) 0xD0 refl refl size

pub shift_cl_row : (size : Size) → row_of None (opcode_for size 0xD2) ≡ Some (row.ShiftCl (operands_for size))
unfolding one_byte_row
shift_cl_row size = pair_row (λ o. row.ShiftCl o) 0xD2 refl refl size

-- ---- conditions
pub jcc_short : (c : Cond) → row_of None (0x70 + condition_number c) ≡ Some (row.Jcc c Rel8)
unfolding one_byte_row condition_of
jcc_short cond.O = refl
jcc_short cond.No = refl
jcc_short cond.B = refl
jcc_short cond.Ae = refl
jcc_short cond.E = refl
jcc_short cond.Ne = refl
jcc_short cond.Be = refl
jcc_short cond.A = refl
jcc_short cond.S = refl
jcc_short cond.Ns = refl
jcc_short cond.P = refl
jcc_short cond.Np = refl
jcc_short cond.L = refl
jcc_short cond.Ge = refl
jcc_short cond.Le = refl
jcc_short cond.G = refl

pub jcc_near : (c : Cond) → row_of (Some 0x0F) (0x80 + condition_number c) ≡ Some (row.Jcc c Rel32)
unfolding escaped_row condition_of
jcc_near cond.O = refl
jcc_near cond.No = refl
jcc_near cond.B = refl
jcc_near cond.Ae = refl
jcc_near cond.E = refl
jcc_near cond.Ne = refl
jcc_near cond.Be = refl
jcc_near cond.A = refl
jcc_near cond.S = refl
jcc_near cond.Ns = refl
jcc_near cond.P = refl
jcc_near cond.Np = refl
jcc_near cond.L = refl
jcc_near cond.Ge = refl
jcc_near cond.Le = refl
jcc_near cond.G = refl

pub set_row : (c : Cond) → row_of (Some 0x0F) (0x90 + condition_number c) ≡ Some (row.Set c)
unfolding escaped_row condition_of
set_row cond.O = refl
set_row cond.No = refl
set_row cond.B = refl
set_row cond.Ae = refl
set_row cond.E = refl
set_row cond.Ne = refl
set_row cond.Be = refl
set_row cond.A = refl
set_row cond.S = refl
set_row cond.Ns = refl
set_row cond.P = refl
set_row cond.Np = refl
set_row cond.L = refl
set_row cond.Ge = refl
set_row cond.Le = refl
set_row cond.G = refl

pub cmov_row : (c : Cond) → row_of (Some 0x0F) (0x40 + condition_number c) ≡ Some (row.Cmov c)
unfolding escaped_row condition_of
cmov_row cond.O = refl
cmov_row cond.No = refl
cmov_row cond.B = refl
cmov_row cond.Ae = refl
cmov_row cond.E = refl
cmov_row cond.Ne = refl
cmov_row cond.Be = refl
cmov_row cond.A = refl
cmov_row cond.S = refl
cmov_row cond.Ns = refl
cmov_row cond.P = refl
cmov_row cond.Np = refl
cmov_row cond.L = refl
cmov_row cond.Ge = refl
cmov_row cond.Le = refl
cmov_row cond.G = refl

-- ---- a register in the opcode
pub bswap_row : (l : ℕ) → l < 8 → row_of (Some 0x0F) (0xC8 + l) ≡ Some row.Bswap
unfolding escaped_row
bswap_row l h = grind (arith, nat_tests)

pub wide_row : (l : ℕ) → l < 8 → row_of None (0xB8 + l) ≡ Some row.MovRegImm64
unfolding one_byte_row
wide_row l h = grind (arith, nat_tests)

-- ---- numbers in the reg field
pub alu_small : (a : Alu) → alu_number a < 8
alu_small alu.Add = omega arith
alu_small alu.Or = omega arith
alu_small alu.Adc = omega arith
alu_small alu.Sbb = omega arith
alu_small alu.And = omega arith
alu_small alu.Sub = omega arith
alu_small alu.Xor = omega arith
alu_small alu.Cmp = omega arith
alu_small alu.Test = omega arith

pub operation_back : (a : Alu) → is_test a ≡ false → operation_of (alu_number a % 8) ≡ a
operation_back a h =
    let e : alu_number a % 8 ≡ alu_number a = omega (arith, alu_small a) in ap operation_of e ∙ operation_of_number a h

pub shift_small : (s : Shift) → shift_number s < 8
shift_small shift.Rol = omega arith
shift_small shift.Ror = omega arith
shift_small shift.Shl = omega arith
shift_small shift.Shr = omega arith
shift_small shift.Sar = omega arith

pub shift_back : (s : Shift) → shift_of (shift_number s % 8) ≡ s
unfolding shift_of
shift_back shift.Rol = refl
shift_back shift.Ror = refl
shift_back shift.Shl = refl
shift_back shift.Shr = refl
shift_back shift.Sar = refl

pub shift_taken : (s : Shift) → is_shift_number (shift_number s % 8) ≡ true
shift_taken shift.Rol = refl
shift_taken shift.Ror = refl
shift_taken shift.Shl = refl
shift_taken shift.Shr = refl
shift_taken shift.Sar = refl
