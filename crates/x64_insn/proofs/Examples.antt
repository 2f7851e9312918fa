-- What is chosen for closed instructions, as an assembler writes it.
use Rattle.std.proofs.Common.{◌≡◌, ℕ, List, [], ◌∷◌, refl, false, ℤ, pos, negsuc}
use Rattle.std.specs.Prelude.{Option, Some, None}
use Rattle.jz_words.specs.declared.size.Size.TheVariants.{S8, S16, S32, S64}
use Rattle.x64_insn.specs.declared.types.Alu.TheVariants as alu
use Rattle.x64_insn.specs.declared.types.Wide.TheVariants as wide
use Rattle.x64_insn.specs.declared.types.Shift.TheVariants as shift
use Rattle.x64_insn.specs.declared.types.Count.TheVariants as count
use Rattle.x64_insn.specs.declared.types.Cond.TheVariants as cond
use Rattle.x64_insn.specs.declared.types.Reg.{Reg}
use Rattle.x64_insn.specs.declared.types.Reg.TheVariants as reg
use Rattle.x64_insn.specs.declared.types.Base.{Base}
use Rattle.x64_insn.specs.declared.types.Base.TheVariants as base
use Rattle.x64_insn.specs.declared.types.Mem.{Mem}
use Rattle.x64_insn.specs.declared.types.Operand.TheVariants as operand
use Rattle.x64_insn.specs.declared.types.Insn.{Insn}
use Rattle.x64_insn.specs.declared.types.Insn.TheVariants as insn
use Rattle.x64_insn.specs.Encoding.{spelling_of}
use Rattle.x64_insn.specs.Chosen.{chosen_bytes, chosen_fields, modrm_fields, rm_parts}

abbrev at : Base → Option (Reg × ℕ) → ℤ → Mem
at b i d = record { base = b; index = i; disp = d }

abbrev Writes : Insn → List ℕ → Type 0
Writes i bs = chosen_bytes i ≡ bs

mov_rax_rdi : Writes (insn.Mov S64 (operand.Reg reg.Rax) (operand.Reg reg.Rdi)) (0x48 ∷ 0x89 ∷ 0xF8 ∷ [])
unfolding chosen_bytes chosen_fields spelling_of modrm_fields rm_parts
mov_rax_rdi = refl

add_rax_rsi : Writes (insn.Alu alu.Add S64 (operand.Reg reg.Rax) (operand.Reg reg.Rsi)) (0x48 ∷ 0x01 ∷ 0xF0 ∷ [])
unfolding chosen_bytes chosen_fields spelling_of modrm_fields rm_parts
add_rax_rsi = refl

mov_r9_rcx : Writes (insn.Mov S64 (operand.Reg reg.R9) (operand.Reg reg.Rcx)) (0x49 ∷ 0x89 ∷ 0xC9 ∷ [])
unfolding chosen_bytes chosen_fields spelling_of modrm_fields rm_parts
mov_r9_rcx = refl

ret : Writes insn.Ret (0xC3 ∷ [])
unfolding chosen_bytes chosen_fields spelling_of modrm_fields rm_parts
ret = refl

-- add dword [rax+rcx*4-8], 1
add_at_index : Writes (insn.Alu alu.Add S32 (operand.Mem (at (base.Reg reg.Rax) (Some (reg.Rcx, 4)) (negsuc 7))) (operand.Imm (pos 1))) (0x83 ∷ 0x44 ∷ 0x88 ∷ 0xF8 ∷ 0x01 ∷ [])
unfolding chosen_bytes chosen_fields spelling_of modrm_fields rm_parts
add_at_index = refl

-- mov r9, [rip+16]
mov_from_rip : Writes (insn.Mov S64 (operand.Reg reg.R9) (operand.Mem (at base.Rip None (pos 16)))) (0x4C ∷ 0x8B ∷ 0x0D ∷ 0x10 ∷ 0x00 ∷ 0x00 ∷ 0x00 ∷ [])
unfolding chosen_bytes chosen_fields spelling_of modrm_fields rm_parts
mov_from_rip = refl

-- mov [rsp], sil
mov_byte : Writes (insn.Mov S8 (operand.Mem (at (base.Reg reg.Rsp) None (pos 0))) (operand.Reg reg.Rsi)) (0x40 ∷ 0x88 ∷ 0x34 ∷ 0x24 ∷ [])
unfolding chosen_bytes chosen_fields spelling_of modrm_fields rm_parts
mov_byte = refl

-- mov rax, 0x1122334455667788
mov_wide : Writes (insn.Mov S64 (operand.Reg reg.Rax) (operand.Imm (pos 0x1122334455667788))) (0x48 ∷ 0xB8 ∷ 0x88 ∷ 0x77 ∷ 0x66 ∷ 0x55 ∷ 0x44 ∷ 0x33 ∷ 0x22 ∷ 0x11 ∷ [])
unfolding chosen_bytes chosen_fields spelling_of modrm_fields rm_parts
mov_wide = refl

-- adc cx, -1
adc_word : Writes (insn.Alu alu.Adc S16 (operand.Reg reg.Rcx) (operand.Imm (negsuc 0))) (0x66 ∷ 0x83 ∷ 0xD1 ∷ 0xFF ∷ [])
unfolding chosen_bytes chosen_fields spelling_of modrm_fields rm_parts
adc_word = refl

-- test word [rbp-128], 256
test_word : Writes (insn.Alu alu.Test S16 (operand.Mem (at (base.Reg reg.Rbp) None (negsuc 127))) (operand.Imm (pos 256))) (0x66 ∷ 0xF7 ∷ 0x45 ∷ 0x80 ∷ 0x00 ∷ 0x01 ∷ [])
unfolding chosen_bytes chosen_fields spelling_of modrm_fields rm_parts
test_word = refl

-- imul rax, rbx, -3
imul_by : Writes (insn.ImulBy S64 reg.Rax (operand.Reg reg.Rbx) (negsuc 2)) (0x48 ∷ 0x6B ∷ 0xC3 ∷ 0xFD ∷ [])
unfolding chosen_bytes chosen_fields spelling_of modrm_fields rm_parts
imul_by = refl

-- div rcx
div : Writes (insn.Wide wide.Div S64 (operand.Reg reg.Rcx)) (0x48 ∷ 0xF7 ∷ 0xF1 ∷ [])
unfolding chosen_bytes chosen_fields spelling_of modrm_fields rm_parts
div = refl

-- shl al, cl
shl_by_cl : Writes (insn.Shift shift.Shl S8 (operand.Reg reg.Rax) count.Cl) (0xD2 ∷ 0xE0 ∷ [])
unfolding chosen_bytes chosen_fields spelling_of modrm_fields rm_parts
shl_by_cl = refl

-- movzx eax, byte [r13]
movzx : Writes (insn.Extend false S32 S8 reg.Rax (operand.Mem (at (base.Reg reg.R13) None (pos 0)))) (0x41 ∷ 0x0F ∷ 0xB6 ∷ 0x45 ∷ 0x00 ∷ [])
unfolding chosen_bytes chosen_fields spelling_of modrm_fields rm_parts
movzx = refl

-- lea rax, [rbx*8+4096]
lea_without_base : Writes (insn.Lea reg.Rax (at base.Absent (Some (reg.Rbx, 8)) (pos 4096))) (0x48 ∷ 0x8D ∷ 0x04 ∷ 0xDD ∷ 0x00 ∷ 0x10 ∷ 0x00 ∷ 0x00 ∷ [])
unfolding chosen_bytes chosen_fields spelling_of modrm_fields rm_parts
lea_without_base = refl

-- sete sil
sete : Writes (insn.Set cond.E (operand.Reg reg.Rsi)) (0x40 ∷ 0x0F ∷ 0x94 ∷ 0xC6 ∷ [])
unfolding chosen_bytes chosen_fields spelling_of modrm_fields rm_parts
sete = refl

-- cmovb rdx, [r12+1]
cmovb : Writes (insn.Cmov cond.B S64 reg.Rdx (operand.Mem (at (base.Reg reg.R12) None (pos 1)))) (0x49 ∷ 0x0F ∷ 0x42 ∷ 0x54 ∷ 0x24 ∷ 0x01 ∷ [])
unfolding chosen_bytes chosen_fields spelling_of modrm_fields rm_parts
cmovb = refl

-- bswap r10d
bswap : Writes (insn.Bswap S32 reg.R10) (0x41 ∷ 0x0F ∷ 0xCA ∷ [])
unfolding chosen_bytes chosen_fields spelling_of modrm_fields rm_parts
bswap = refl

cqo : Writes insn.Cqo (0x48 ∷ 0x99 ∷ [])
unfolding chosen_bytes chosen_fields spelling_of modrm_fields rm_parts
cqo = refl
