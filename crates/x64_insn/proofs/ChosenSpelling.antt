-- What is chosen is a spelling, and an instruction has one exactly where the test says so.
use Rattle.std.proofs.Common.{◌≡◌, ◌+◌, ◌*◌, true, false, Option, Some, ℤ, refl, sym, ap, subst}
use Rattle.std.specs.Prelude.{◌&&◌}
use Rattle.std.proofs.lemmas.Bool.{false≢true, true≢false, and_parts, cond-true}
use Rattle.jz_words.specs.declared.size.Size.{Size}
use Rattle.jz_words.specs.declared.size.Size.TheVariants.{S8, S16, S32, S64}
use Rattle.x64_insn.specs.declared.types.Alu.{Alu}
use Rattle.x64_insn.specs.declared.types.Alu.TheVariants as alu
use Rattle.x64_insn.specs.declared.types.Shift.{Shift}
use Rattle.x64_insn.specs.declared.types.Count.{Count}
use Rattle.x64_insn.specs.declared.types.Count.TheVariants as count
use Rattle.x64_insn.specs.declared.types.Mem.{Mem}
use Rattle.x64_insn.specs.declared.types.Reg.{Reg}
use Rattle.x64_insn.specs.declared.types.Operand.{Operand}
use Rattle.x64_insn.specs.declared.types.Operand.TheVariants as operand
use Rattle.x64_insn.specs.declared.types.Insn.{Insn}
use Rattle.x64_insn.specs.declared.types.Insn.TheVariants as insn
use Rattle.x64_insn.specs.Table.{immediate_by}
use Rattle.x64_insn.specs.Encoding.{Fields, Spells, HasSpelling}
use Rattle.x64_insn.specs.Chosen.{alu_number, opcode_for, fits_bytes, with_register, alu_immediate, alu_fields, mov_fields, shift_fields, bytes_of_fields, chosen_fields, chosen_bytes, is_rm, is_test, is_address, is_no_byte, is_extension, is_count, are_alu_operands, are_mov_operands, is_spelled}
use Rattle.x64_insn.proofs.PairSpellings.{alu_rm_reg, alu_reg_rm, test_rm_reg, test_full, mov_rm_reg, mov_reg_rm, mov_full}
use Rattle.x64_insn.proofs.NumberSpellings.{one_spells, wide_spells, shift_by_cl, shift_spells}
use Rattle.x64_insn.proofs.SizedSpellings.{alu_rm_imm, imul_spells, imul_by_spells, cmov_spells, set_spells, lea_spells, extend_spells}
use Rattle.x64_insn.proofs.OpcodeSpellings.{jcc_spells, jmp_spells, call_spells, ret_spells, cdq_spells, cqo_spells, mov_either, bswap_spells}
use Rattle.x64_insn.proofs.SpelledOnly.{only_spelled}

-- ---- operations: all but TEST go by their number
reg_fields : (a : Alu) (size : Size) (rm : Operand) (r : Reg) → is_test a ≡ false → alu_fields a size rm (operand.Reg r) ≡ Some (with_register size (opcode_for size (8 * alu_number a)) r rm)
reg_fields alu.Add size rm r h = refl
reg_fields alu.Or size rm r h = refl
reg_fields alu.Adc size rm r h = refl
reg_fields alu.Sbb size rm r h = refl
reg_fields alu.And size rm r h = refl
reg_fields alu.Sub size rm r h = refl
reg_fields alu.Xor size rm r h = refl
reg_fields alu.Cmp size rm r h = refl
reg_fields alu.Test size rm r h = absurd (true≢false h)

imm_fields : (a : Alu) (size : Size) (rm : Operand) (i : ℤ) → is_test a ≡ false → alu_fields a size rm (operand.Imm i) ≡ Some (alu_immediate a size rm i)
imm_fields alu.Add size rm i h = refl
imm_fields alu.Or size rm i h = refl
imm_fields alu.Adc size rm i h = refl
imm_fields alu.Sbb size rm i h = refl
imm_fields alu.And size rm i h = refl
imm_fields alu.Sub size rm i h = refl
imm_fields alu.Xor size rm i h = refl
imm_fields alu.Cmp size rm i h = refl
imm_fields alu.Test size rm i h = absurd (true≢false h)

mem_fields : (a : Alu) (size : Size) (r : Reg) (m : Mem) → is_test a ≡ false → alu_fields a size (operand.Reg r) (operand.Mem m) ≡ Some (with_register size (opcode_for size (8 * alu_number a + 2)) r (operand.Mem m))
mem_fields alu.Add size r m h = refl
mem_fields alu.Or size r m h = refl
mem_fields alu.Adc size r m h = refl
mem_fields alu.Sbb size r m h = refl
mem_fields alu.And size r m h = refl
mem_fields alu.Sub size r m h = refl
mem_fields alu.Xor size r m h = refl
mem_fields alu.Cmp size r m h = refl
mem_fields alu.Test size r m h = absurd (true≢false h)

at_fields : (o : Option Fields) (f : Fields) (i : Insn) → o ≡ Some f → Spells (bytes_of_fields (Some f)) i → Spells (bytes_of_fields o) i
at_fields o f i e h = subst (λ (v : Option Fields). Spells (bytes_of_fields v) i) (sym e) h

no_test : (a : Alu) (size : Size) (to from : Operand) → is_test a ≡ false → are_alu_operands a size to from ≡ true → Spells (bytes_of_fields (alu_fields a size to from)) (insn.Alu a size to from)
no_test a size to (operand.Reg r) n h = at_fields _ _ _ (reg_fields a size to r n) (alu_rm_reg a size to r n h)
no_test a size to (operand.Imm i) n h = let t = and_parts (is_rm to) (fits_bytes (immediate_by size) i) h in at_fields _ _ _ (imm_fields a size to i n) (alu_rm_imm a size to i n t.0 t.1)
no_test a size (operand.Reg r) (operand.Mem m) n h = at_fields _ _ _ (mem_fields a size r m n) (alu_reg_rm a size r (operand.Mem m) n ((and_parts _ _ h).1))
no_test a size (operand.Imm i) (operand.Mem m) n h = absurd (false≢true ((and_parts _ _ h).1))
no_test a size (operand.Mem t) (operand.Mem m) n h = absurd (false≢true ((and_parts _ _ h).1))

alu_spells : (a : Alu) (size : Size) (to from : Operand) → are_alu_operands a size to from ≡ true → Spells (bytes_of_fields (alu_fields a size to from)) (insn.Alu a size to from)
alu_spells alu.Test size to (operand.Reg r) h = test_rm_reg size to r h
alu_spells alu.Test size to (operand.Imm i) h = let t = and_parts (is_rm to) (fits_bytes (immediate_by size) i) h in test_full size to i t.0 t.1
alu_spells alu.Test size to (operand.Mem m) h = absurd (false≢true h)
alu_spells alu.Add size to from h = no_test alu.Add size to from refl h
alu_spells alu.Or size to from h = no_test alu.Or size to from refl h
alu_spells alu.Adc size to from h = no_test alu.Adc size to from refl h
alu_spells alu.Sbb size to from h = no_test alu.Sbb size to from refl h
alu_spells alu.And size to from h = no_test alu.And size to from refl h
alu_spells alu.Sub size to from h = no_test alu.Sub size to from refl h
alu_spells alu.Xor size to from h = no_test alu.Xor size to from refl h
alu_spells alu.Cmp size to from h = no_test alu.Cmp size to from refl h

-- ---- MOV
to_memory : (size : Size) (m : Mem) (i : ℤ) → (is_address m && fits_bytes (immediate_by size) i) ≡ true → Spells (bytes_of_fields (mov_fields size (operand.Mem m) (operand.Imm i))) (insn.Mov size (operand.Mem m) (operand.Imm i))
to_memory size m i h = let t = and_parts (is_address m) (fits_bytes (immediate_by size) i) h in mov_full size (operand.Mem m) i t.0 t.1

-- a register of fewer bits: the immediate fits
narrow : (size : Size) (r : Reg) (i : ℤ) → fits_bytes (immediate_by size) i ≡ true → Spells (bytes_of_fields (mov_fields size (operand.Reg r) (operand.Imm i))) (insn.Mov size (operand.Reg r) (operand.Imm i))
narrow size r i h = at_fields _ _ _ (ap (λ f. Some f) (cond-true (fits_bytes (immediate_by size) i) _ _ h)) (mov_full size (operand.Reg r) i refl h)

mov_spells : (size : Size) (to from : Operand) → are_mov_operands size to from ≡ true → Spells (bytes_of_fields (mov_fields size to from)) (insn.Mov size to from)
mov_spells size to (operand.Reg r) h = mov_rm_reg size to r h
mov_spells S8 (operand.Reg r) (operand.Imm i) h = narrow S8 r i h
mov_spells S16 (operand.Reg r) (operand.Imm i) h = narrow S16 r i h
mov_spells S32 (operand.Reg r) (operand.Imm i) h = narrow S32 r i h
mov_spells S64 (operand.Reg r) (operand.Imm i) h = mov_either r i h
mov_spells S8 (operand.Mem m) (operand.Imm i) h = to_memory S8 m i h
mov_spells S16 (operand.Mem m) (operand.Imm i) h = to_memory S16 m i h
mov_spells S32 (operand.Mem m) (operand.Imm i) h = to_memory S32 m i h
mov_spells S64 (operand.Mem m) (operand.Imm i) h = to_memory S64 m i h
mov_spells size (operand.Imm k) (operand.Imm i) h = absurd (false≢true h)
mov_spells size (operand.Reg r) (operand.Mem m) h = mov_reg_rm size r (operand.Mem m) h
mov_spells size (operand.Imm k) (operand.Mem m) h = absurd (false≢true h)
mov_spells size (operand.Mem k) (operand.Mem m) h = absurd (false≢true h)

-- ---- all
count_spells : (s : Shift) (size : Size) (rm : Operand) (n : Count) → is_rm rm ≡ true → is_count n ≡ true → Spells (bytes_of_fields (Some (shift_fields s size rm n))) (insn.Shift s size rm n)
count_spells s size rm count.Cl ok h = shift_by_cl s size rm ok
count_spells s size rm (count.Imm k) ok h = shift_spells s size rm k ok h

pub chosen_spells : (i : Insn) → is_spelled i ≡ true → Spells (chosen_bytes i) i
unfolding chosen_bytes chosen_fields is_spelled
chosen_spells (insn.Alu a size to from) h = alu_spells a size to from h
chosen_spells (insn.Mov size to from) h = mov_spells size to from h
chosen_spells (insn.Extend sign to from r rm) h = let t = and_parts (is_extension sign to from) (is_rm rm) h in extend_spells sign to from r rm t.0 t.1
chosen_spells (insn.Lea r a) h = lea_spells r a h
chosen_spells (insn.One op size rm) h = one_spells op size rm h
chosen_spells (insn.Wide op size rm) h = let t = and_parts (is_no_byte size) (is_rm rm) h in wide_spells op size rm t.0 t.1
chosen_spells (insn.Imul size r rm) h = let t = and_parts (is_no_byte size) (is_rm rm) h in imul_spells size r rm t.0 t.1
chosen_spells (insn.ImulBy size r rm i) h =
    let t = and_parts (is_no_byte size) (is_rm rm && fits_bytes (immediate_by size) i) h in
    let k = and_parts (is_rm rm) (fits_bytes (immediate_by size) i) t.1 in imul_by_spells size r rm i t.0 k.0 k.1
chosen_spells (insn.Shift s size rm n) h = let t = and_parts (is_rm rm) (is_count n) h in count_spells s size rm n t.0 t.1
chosen_spells (insn.Bswap size r) h = bswap_spells size r h
chosen_spells insn.Cdq h = cdq_spells
chosen_spells insn.Cqo h = cqo_spells
chosen_spells (insn.Set c rm) h = set_spells c rm h
chosen_spells (insn.Cmov c size r rm) h = let t = and_parts (is_no_byte size) (is_rm rm) h in cmov_spells c size r rm t.0 t.1
chosen_spells (insn.Jcc c w i) h = jcc_spells w c i h
chosen_spells (insn.Jmp w i) h = jmp_spells w i h
chosen_spells (insn.Call i) h = call_spells i h
chosen_spells insn.Ret h = ret_spells

pub spelling_exists : (i : Insn) → is_spelled i ≡ true → HasSpelling i
spelling_exists i h = (chosen_bytes i, chosen_spells i h)

-- ---- and only these have a spelling
pub spelled_only : (i : Insn) → HasSpelling i → is_spelled i ≡ true
spelled_only i h = only_spelled i h.1.0 h.1.1 h.1.3
