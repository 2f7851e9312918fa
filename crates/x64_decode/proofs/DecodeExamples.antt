-- What closed bytes begin with, as a disassembler says it.
use Rattle.std.proofs.Common.{◌≡◌, ℕ, List, [], ◌∷◌, false, Some, None, refl}
use Rattle.std.specs.Prelude.{pos, negsuc}
use Rattle.x64_insn.specs.Size.TheVariants.{S8, S16, S32, S64}
use Rattle.x64_insn.specs.declared.types.Alu.TheVariants as alu
use Rattle.x64_insn.specs.declared.types.Cond.TheVariants as cond
use Rattle.x64_insn.specs.declared.types.Width.TheVariants.{Rel8}
use Rattle.x64_insn.specs.declared.types.Reg.TheVariants as reg
use Rattle.x64_insn.specs.declared.types.Base.TheVariants as base
use Rattle.x64_insn.specs.declared.types.Operand.TheVariants as operand
use Rattle.x64_insn.specs.declared.types.Insn.TheVariants as insn
use Rattle.x64_insn.specs.Table.{one_byte_row, escaped_row, operation_of, condition_of, reg_of}
use Rattle.x64_insn.specs.Encoding.{spelling_of, insn_of, displacement_length, signed_from, memory_of, rm_of_modrm, group3}
use Rattle.x64_decode.specs.declared.Decoded.TheVariants as decoded
use Rattle.x64_decode.specs.ByteReading.{follow, prefix, byte_where, byte_if, some_bytes}
use Rattle.x64_decode.specs.Decoding.{decoded_of, parts, may_be_opcode, may_be_modrm, immediate_bytes}

-- ---- registers
mov_rax_rdi : (rest : List ℕ) → decoded_of (0x48 ∷ 0x89 ∷ 0xF8 ∷ rest) ≡ decoded.Insn (insn.Mov S64 (operand.Reg reg.Rax) (operand.Reg reg.Rdi)) 3
unfolding decoded_of parts follow prefix byte_where byte_if some_bytes may_be_opcode may_be_modrm immediate_bytes one_byte_row displacement_length insn_of rm_of_modrm spelling_of reg_of
mov_rax_rdi rest = refl

-- X plays no part
add_r9_r8 : (rest : List ℕ) → decoded_of (0x4F ∷ 0x03 ∷ 0xC8 ∷ rest) ≡ decoded.Insn (insn.Alu alu.Add S64 (operand.Reg reg.R9) (operand.Reg reg.R8)) 3
unfolding decoded_of parts follow prefix byte_where byte_if some_bytes may_be_opcode may_be_modrm immediate_bytes one_byte_row operation_of displacement_length insn_of rm_of_modrm spelling_of reg_of
add_r9_r8 rest = refl

movzx_r8w_sil : (rest : List ℕ) → decoded_of (0x66 ∷ 0x44 ∷ 0x0F ∷ 0xB6 ∷ 0xC6 ∷ rest) ≡ decoded.Insn (insn.Extend false S16 S8 reg.R8 (operand.Reg reg.Rsi)) 5
unfolding decoded_of parts follow prefix byte_where byte_if some_bytes may_be_opcode may_be_modrm immediate_bytes escaped_row displacement_length insn_of rm_of_modrm spelling_of reg_of
movzx_r8w_sil rest = refl

ret : (rest : List ℕ) → decoded_of (0xC3 ∷ rest) ≡ decoded.Insn insn.Ret 1
unfolding decoded_of parts follow prefix byte_where byte_if some_bytes may_be_opcode may_be_modrm immediate_bytes one_byte_row displacement_length insn_of spelling_of
ret rest = refl

-- ---- addresses
-- the base R12 needs a SIB, whose index 4 is none
mov_rax_at_r12 : (rest : List ℕ) → decoded_of (0x49 ∷ 0x8B ∷ 0x04 ∷ 0x24 ∷ rest) ≡ decoded.Insn (insn.Mov S64 (operand.Reg reg.Rax) (operand.Mem (record { base = base.Reg reg.R12; index = None; disp = pos 0 }))) 4
unfolding decoded_of parts follow prefix byte_where byte_if some_bytes may_be_opcode may_be_modrm immediate_bytes one_byte_row displacement_length signed_from insn_of memory_of rm_of_modrm spelling_of reg_of
mov_rax_at_r12 rest = refl

-- the base R13 needs a displacement
mov_eax_at_r13 : (rest : List ℕ) → decoded_of (0x41 ∷ 0x8B ∷ 0x45 ∷ 0x00 ∷ rest) ≡ decoded.Insn (insn.Mov S32 (operand.Reg reg.Rax) (operand.Mem (record { base = base.Reg reg.R13; index = None; disp = pos 0 }))) 4
unfolding decoded_of parts follow prefix byte_where byte_if some_bytes may_be_opcode may_be_modrm immediate_bytes one_byte_row displacement_length signed_from insn_of memory_of rm_of_modrm spelling_of reg_of
mov_eax_at_r13 rest = refl

mov_eax_at_rip : (rest : List ℕ) → decoded_of (0x8B ∷ 0x05 ∷ 0xFF ∷ 0xFF ∷ 0xFF ∷ 0xFF ∷ rest) ≡ decoded.Insn (insn.Mov S32 (operand.Reg reg.Rax) (operand.Mem (record { base = base.Rip; index = None; disp = negsuc 0 }))) 6
unfolding decoded_of parts follow prefix byte_where byte_if some_bytes may_be_opcode may_be_modrm immediate_bytes one_byte_row displacement_length signed_from insn_of memory_of rm_of_modrm spelling_of reg_of
mov_eax_at_rip rest = refl

-- the index 4 with X is R12, and mode 0 with the base 5 has none
lea_rax_index_r12 : (rest : List ℕ) → decoded_of (0x4A ∷ 0x8D ∷ 0x04 ∷ 0xA5 ∷ 0x08 ∷ 0x00 ∷ 0x00 ∷ 0x00 ∷ rest) ≡ decoded.Insn (insn.Lea reg.Rax (record { base = base.Absent; index = Some (reg.R12, 4); disp = pos 8 })) 8
unfolding decoded_of parts follow prefix byte_where byte_if some_bytes may_be_opcode may_be_modrm immediate_bytes one_byte_row displacement_length signed_from insn_of memory_of spelling_of reg_of
lea_rax_index_r12 rest = refl

-- ---- immediates and jumps
test_cl_immediate : (rest : List ℕ) → decoded_of (0xF6 ∷ 0xC1 ∷ 0x80 ∷ rest) ≡ decoded.Insn (insn.Alu alu.Test S8 (operand.Reg reg.Rcx) (operand.Imm (negsuc 127))) 3
unfolding decoded_of parts follow prefix byte_where byte_if some_bytes may_be_opcode may_be_modrm immediate_bytes one_byte_row displacement_length signed_from insn_of group3 rm_of_modrm spelling_of reg_of
test_cl_immediate rest = refl

jne_back : (rest : List ℕ) → decoded_of (0x75 ∷ 0xFE ∷ rest) ≡ decoded.Insn (insn.Jcc cond.Ne Rel8 (negsuc 1)) 2
unfolding decoded_of parts follow prefix byte_where byte_if some_bytes may_be_opcode may_be_modrm immediate_bytes one_byte_row condition_of displacement_length signed_from insn_of spelling_of
jne_back rest = refl

-- ---- no instruction, and less than one
short : decoded_of (0x48 ∷ 0x8B ∷ []) ≡ decoded.Truncated
unfolding decoded_of parts follow prefix byte_where byte_if some_bytes may_be_opcode may_be_modrm one_byte_row
short = refl

no_push : (rest : List ℕ) → decoded_of (0x06 ∷ rest) ≡ decoded.Unknown
unfolding decoded_of parts follow prefix byte_where may_be_opcode one_byte_row
no_push rest = refl

ret_behind_rex : (rest : List ℕ) → decoded_of (0x40 ∷ 0xC3 ∷ rest) ≡ decoded.Unknown
unfolding decoded_of parts follow prefix byte_where may_be_opcode one_byte_row
ret_behind_rex rest = refl

-- without REX the register of one byte with the number 4 is AH
mov_al_ah : (rest : List ℕ) → decoded_of (0x88 ∷ 0xE0 ∷ rest) ≡ decoded.Unknown
unfolding decoded_of parts follow prefix byte_where byte_if may_be_opcode may_be_modrm one_byte_row
mov_al_ah rest = refl
