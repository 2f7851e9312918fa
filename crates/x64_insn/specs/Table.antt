-- The table of opcodes (Intel SDM vol. 2, appendix A and the page of each instruction), and the
-- numbers of registers, operations and conditions.
use Rattle.std.specs.Prelude.{ℕ, ◌+◌, ◌/◌, ◌%◌, Bool, true, false, not, ◌&&◌, ◌||◌, ◌==◌, nat_lt, nat_le, if◌then◌else◌, Option, Some, None, is_some, is_none, List, [], ◌∷◌, slice_index_or}
use Rattle.jz_words.specs.declared.size.Size.{Size}
use Rattle.jz_words.specs.declared.size.Size.TheVariants.{S8, S16, S32, S64}
use Rattle.x64_insn.specs.declared.types.Alu.{Alu}
use Rattle.x64_insn.specs.declared.types.Alu.TheVariants as alu
use Rattle.x64_insn.specs.declared.types.Cond.{Cond}
use Rattle.x64_insn.specs.declared.types.Cond.TheVariants as cond
use Rattle.x64_insn.specs.declared.types.Reg.{Reg}
use Rattle.x64_insn.specs.declared.types.Reg.TheVariants as reg
use Rattle.x64_insn.specs.declared.types.Width.{Width}
use Rattle.x64_insn.specs.declared.types.Width.TheVariants.{Rel8, Rel32}
use Rattle.x64_insn.specs.declared.table.Operands.{Operands}
use Rattle.x64_insn.specs.declared.table.Operands.TheVariants.{Bytes, Sized}
use Rattle.x64_insn.specs.declared.table.Row.{Row}
use Rattle.x64_insn.specs.declared.table.Row.TheVariants as row

-- ---- the numbers of registers (2.1.5, table 2-2; 2.2.1.2, table 2-4)
-- the registers in the order of their numbers
abbrev pub registers : List Reg
registers =
    reg.Rax ∷ reg.Rcx ∷ reg.Rdx ∷ reg.Rbx ∷ reg.Rsp ∷ reg.Rbp ∷ reg.Rsi ∷ reg.Rdi
    ∷ reg.R8 ∷ reg.R9 ∷ reg.R10 ∷ reg.R11 ∷ reg.R12 ∷ reg.R13 ∷ reg.R14 ∷ reg.R15 ∷ []

-- the register of a number below 16
unfoldable pub reg_of : ℕ → Reg
reg_of n = slice_index_or registers n reg.R15

-- the number of a register, which is its place in the list
abbrev pub number_of : Reg → ℕ
number_of reg.Rax = 0
number_of reg.Rcx = 1
number_of reg.Rdx = 2
number_of reg.Rbx = 3
number_of reg.Rsp = 4
number_of reg.Rbp = 5
number_of reg.Rsi = 6
number_of reg.Rdi = 7
number_of reg.R8 = 8
number_of reg.R9 = 9
number_of reg.R10 = 10
number_of reg.R11 = 11
number_of reg.R12 = 12
number_of reg.R13 = 13
number_of reg.R14 = 14
number_of reg.R15 = 15

-- ---- opcodes (appendix A.2 and A.3; the groups of A.4)
-- the operations in the order of their numbers, which stand in the opcode or in the reg field; TEST
-- has none
abbrev pub operations : List Alu
operations = alu.Add ∷ alu.Or ∷ alu.Adc ∷ alu.Sbb ∷ alu.And ∷ alu.Sub ∷ alu.Xor ∷ alu.Cmp ∷ []

-- the operation of a number below 8
unfoldable pub operation_of : ℕ → Alu
operation_of n = slice_index_or operations n alu.Cmp

-- the conditions in the order of their numbers (appendix B.1.4.7)
abbrev pub conditions : List Cond
conditions =
    cond.O ∷ cond.No ∷ cond.B ∷ cond.Ae ∷ cond.E ∷ cond.Ne ∷ cond.Be ∷ cond.A
    ∷ cond.S ∷ cond.Ns ∷ cond.P ∷ cond.Np ∷ cond.L ∷ cond.Ge ∷ cond.Le ∷ cond.G ∷ []

-- the condition of a number below 16
unfoldable pub condition_of : ℕ → Cond
condition_of n = slice_index_or conditions n cond.G

-- an even opcode of a pair has operands of one byte, the odd one of the size that the prefixes give
abbrev pub operands_of : ℕ → Operands
operands_of o = if o % 2 == 0 then Bytes else Sized

-- an opcode and the one behind it
abbrev pub is_pair : ℕ → ℕ → Bool
is_pair first o = nat_le first o && nat_le o (first + 1)

-- eight opcodes with a register, sixteen with a condition
abbrev pub is_one_of : ℕ → ℕ → ℕ → Bool
is_one_of count first o = nat_le first o && nat_lt o (first + count)

-- an opcode of one byte
unfoldable pub one_byte_row : ℕ → Option Row
one_byte_row o =
    if nat_lt o 64
    && nat_lt (o % 8) 2 then Some (row.AluRmReg (operation_of (o / 8)) (operands_of o))
    else if nat_lt o 64
    && nat_lt (o % 8) 4 then Some (row.AluRegRm (operation_of (o / 8)) (operands_of o))
    else if o == 0x63 then Some (row.Extend true S32)
    else if o == 0x69 then Some row.ImulRmImm
    else if o == 0x6B then Some row.ImulRmImm8
    else if is_one_of 16 0x70 o then Some (row.Jcc (condition_of (o % 16)) Rel8)
    else if is_pair 0x80 o then Some (row.AluRmImm (operands_of o))
    else if o == 0x83 then Some row.AluRmImm8
    else if is_pair 0x84 o then Some (row.AluRmReg alu.Test (operands_of o))
    else if is_pair 0x88 o then Some (row.MovRmReg (operands_of o))
    else if is_pair 0x8A o then Some (row.MovRegRm (operands_of o))
    else if o == 0x8D then Some row.Lea
    else if o == 0x99 then Some row.CdqCqo
    else if is_one_of 8 0xB8 o then Some row.MovRegImm64
    else if is_pair 0xC0 o then Some (row.ShiftImm (operands_of o))
    else if o == 0xC3 then Some row.Ret
    else if is_pair 0xC6 o then Some (row.MovRmImm (operands_of o))
    else if is_pair 0xD0 o then Some (row.ShiftOne (operands_of o))
    else if is_pair 0xD2 o then Some (row.ShiftCl (operands_of o))
    else if o == 0xE8 then Some row.Call
    else if o == 0xE9 then Some (row.Jmp Rel32)
    else if o == 0xEB then Some (row.Jmp Rel8)
    else if is_pair 0xF6 o then Some (row.Group3 (operands_of o))
    else if is_pair 0xFE o then Some (row.IncDec (operands_of o))
    else None

-- an opcode behind the escape byte 0F
unfoldable pub escaped_row : ℕ → Option Row
escaped_row o =
    if is_one_of 16 0x40 o then Some (row.Cmov (condition_of (o % 16)))
    else if is_one_of 16 0x80 o then Some (row.Jcc (condition_of (o % 16)) Rel32)
    else if is_one_of 16 0x90 o then Some (row.Set (condition_of (o % 16)))
    else if o == 0xAF then Some row.ImulRegRm
    else if o == 0xB6 then Some (row.Extend false S8)
    else if o == 0xB7 then Some (row.Extend false S16)
    else if o == 0xBE then Some (row.Extend true S8)
    else if o == 0xBF then Some (row.Extend true S16)
    else if is_one_of 8 0xC8 o then Some row.Bswap
    else None

abbrev pub row_of : Option ℕ → ℕ → Option Row
row_of None o = one_byte_row o
row_of (Some e) o = escaped_row o

-- ---- prefixes
-- the bits W, R, X and B of a REX, from the left (2.2.1.2, table 2-4); without REX they are 0
abbrev pub rex_bits : Option ℕ → ℕ
rex_bits None = 0
rex_bits (Some b) = b % 16

abbrev pub has_w : Option ℕ → Bool
has_w rex = nat_le 8 (rex_bits rex)

abbrev pub r_of : Option ℕ → ℕ
r_of rex = rex_bits rex / 4 % 2

abbrev pub x_of : Option ℕ → ℕ
x_of rex = rex_bits rex / 2 % 2

abbrev pub b_of : Option ℕ → ℕ
b_of rex = rex_bits rex % 2

-- REX.W gives 64 bits, the prefix 66 gives 16, and without both operands have 32 (2.2.1.2)
abbrev pub prefixed_size : Option ℕ → Option ℕ → Size
prefixed_size operand_size rex =
    if has_w rex then S64 else if is_some operand_size then S16 else S32

-- the size of a row's operands by its prefixes
abbrev pub size_by : Operands → Option ℕ → Option ℕ → Size
size_by Bytes operand_size rex = S8
size_by Sized operand_size rex = prefixed_size operand_size rex

-- operands of one byte take no prefix 66 (and any REX); others take each
abbrev pub allows_by : Operands → Option ℕ → Bool
allows_by Bytes operand_size = is_none operand_size
allows_by Sized operand_size = true

-- which prefixes a row allows
abbrev pub allows : Row → Option ℕ → Option ℕ → Bool
allows (row.AluRmReg op operands) operand_size rex = allows_by operands operand_size
allows (row.AluRegRm op operands) operand_size rex = allows_by operands operand_size
allows (row.AluRmImm operands) operand_size rex = allows_by operands operand_size
allows (row.MovRmReg operands) operand_size rex = allows_by operands operand_size
allows (row.MovRegRm operands) operand_size rex = allows_by operands operand_size
allows (row.MovRmImm operands) operand_size rex = allows_by operands operand_size
allows (row.ShiftImm operands) operand_size rex = allows_by operands operand_size
allows (row.ShiftOne operands) operand_size rex = allows_by operands operand_size
allows (row.ShiftCl operands) operand_size rex = allows_by operands operand_size
allows (row.Group3 operands) operand_size rex = allows_by operands operand_size
allows (row.IncDec operands) operand_size rex = allows_by operands operand_size
-- a whole register of 64 bits
allows row.MovRegImm64 operand_size rex = has_w rex
allows row.Lea operand_size rex = has_w rex
allows (row.Extend signed S32) operand_size rex = has_w rex
-- a destination that is larger than the source
allows (row.Extend signed S16) operand_size rex = is_none operand_size
allows (row.Extend signed other) operand_size rex = true
-- no operands of 16 bits, or of one byte
allows row.Bswap operand_size rex = is_none operand_size
allows row.CdqCqo operand_size rex = is_none operand_size
allows (row.Set condition) operand_size rex = is_none operand_size
-- no prefix
allows (row.Jcc condition width) operand_size rex = is_none operand_size && is_none rex
allows (row.Jmp width) operand_size rex = is_none operand_size && is_none rex
allows row.Call operand_size rex = is_none operand_size && is_none rex
allows row.Ret operand_size rex = is_none operand_size && is_none rex
-- any: AluRmImm8, ImulRegRm, ImulRmImm, ImulRmImm8, Cmov
allows other operand_size rex = true

-- ---- ModRM: two bits of mode, three of reg, three of rm (2.1.3)
-- the mode: 3 says that rm names a register (2.1.5, table 2-2)
abbrev pub mod_of : ℕ → ℕ
mod_of modrm = modrm / 64

abbrev pub reg_field : ℕ → ℕ
reg_field modrm = modrm / 8 % 8

abbrev pub rm_field : ℕ → ℕ
rm_field modrm = modrm % 8

-- whether a ModRM stands behind the opcode
abbrev pub has_modrm : Row → Bool
has_modrm row.MovRegImm64 = false
has_modrm row.Bswap = false
has_modrm row.CdqCqo = false
has_modrm (row.Jcc condition width) = false
has_modrm (row.Jmp width) = false
has_modrm row.Call = false
has_modrm row.Ret = false
has_modrm other = true

-- ROL, ROR, SHL, SHR and SAR
abbrev pub is_shift_number : ℕ → Bool
is_shift_number n = nat_lt n 2 || (nat_le 4 n && not (n == 6))

-- which numbers the reg field may have: it names a register, an operation, a kind of shift, or is
-- given
abbrev pub takes_reg_field : Row → ℕ → Bool
takes_reg_field (row.MovRmImm operands) n = n == 0
takes_reg_field (row.IncDec operands) n = nat_lt n 2
takes_reg_field (row.ShiftImm operands) n = is_shift_number n
takes_reg_field (row.ShiftOne operands) n = is_shift_number n
takes_reg_field (row.ShiftCl operands) n = is_shift_number n
-- TEST, NOT and NEG; products and quotients of one byte are left out
takes_reg_field (row.Group3 Bytes) n = (n == 0) || is_pair 2 n
takes_reg_field (row.Group3 Sized) n = not (n == 1)
takes_reg_field other n = true

-- whether the reg field, and the rm field of mode 3, name a register of one byte
abbrev pub has_byte_reg : Row → Bool
has_byte_reg (row.AluRmReg op Bytes) = true
has_byte_reg (row.AluRegRm op Bytes) = true
has_byte_reg (row.MovRmReg Bytes) = true
has_byte_reg (row.MovRegRm Bytes) = true
has_byte_reg other = false

abbrev pub has_byte_rm : Row → Bool
has_byte_rm (row.AluRmReg op Bytes) = true
has_byte_rm (row.AluRegRm op Bytes) = true
has_byte_rm (row.AluRmImm Bytes) = true
has_byte_rm (row.MovRmReg Bytes) = true
has_byte_rm (row.MovRegRm Bytes) = true
has_byte_rm (row.MovRmImm Bytes) = true
has_byte_rm (row.ShiftImm Bytes) = true
has_byte_rm (row.ShiftOne Bytes) = true
has_byte_rm (row.ShiftCl Bytes) = true
has_byte_rm (row.Group3 Bytes) = true
has_byte_rm (row.IncDec Bytes) = true
has_byte_rm (row.Extend signed S8) = true
has_byte_rm (row.Set condition) = true
has_byte_rm other = false

-- without REX the numbers 4 to 7 name the second bytes of registers, which are left out (2.2.1.2)
abbrev pub names_low_byte : Option ℕ → ℕ → Bool
names_low_byte rex field = is_some rex || nat_lt field 4

-- LEA has an address
abbrev pub is_lea : Row → Bool
is_lea row.Lea = true
is_lea other = false

-- which bytes may be a row's ModRM
abbrev pub takes_modrm : Row → Option ℕ → ℕ → Bool
takes_modrm row rex modrm =
    nat_lt modrm 256 && (takes_reg_field row (reg_field modrm)
    && ((not (is_lea row) || not (mod_of modrm == 3))
    && ((not (has_byte_reg row) || names_low_byte rex (reg_field modrm))
    &&
    (not (has_byte_rm row)
    || (not (mod_of modrm == 3) || names_low_byte rex (rm_field modrm))))))

-- ---- immediates
-- an immediate of the operands' size, of 32 bits for operands of 64 (2.2.1.3)
abbrev pub immediate_by : Size → ℕ
immediate_by S8 = 1
immediate_by S16 = 2
immediate_by S32 = 4
immediate_by S64 = 4

-- how many bytes the displacement of a jump has
abbrev pub width_length : Width → ℕ
width_length Rel8 = 1
width_length Rel32 = 4

-- how many bytes a row's immediate has, by the prefixes and ModRM's reg field; the displacement of
-- a jump is one
abbrev pub immediate_length : Row → Option ℕ → Option ℕ → ℕ → ℕ
immediate_length (row.AluRmImm operands) operand_size rex field =
    immediate_by (size_by operands operand_size rex)
immediate_length row.AluRmImm8 operand_size rex field = 1
immediate_length (row.MovRmImm operands) operand_size rex field =
    immediate_by (size_by operands operand_size rex)
immediate_length row.MovRegImm64 operand_size rex field = 8
immediate_length row.ImulRmImm operand_size rex field =
    immediate_by (prefixed_size operand_size rex)
immediate_length row.ImulRmImm8 operand_size rex field = 1
immediate_length (row.ShiftImm operands) operand_size rex field = 1
-- TEST alone
immediate_length (row.Group3 operands) operand_size rex field =
    if field == 0 then immediate_by (size_by operands operand_size rex) else 0
immediate_length (row.Jcc condition width) operand_size rex field = width_length width
immediate_length (row.Jmp width) operand_size rex field = width_length width
immediate_length row.Call operand_size rex field = 4
immediate_length other operand_size rex field = 0
