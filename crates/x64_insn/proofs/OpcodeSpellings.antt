-- Rows without a ModRM: a register in the opcode, jumps, and opcodes alone.
use Rattle.std.proofs.Common.{◌≡◌, ℕ, ◌+◌, ◌%◌, List, [], Bool, true, false, Option, Some, None, ℤ, refl, sym, ap, ◌∙◌, subst, arith}
use Rattle.std.specs.Prelude.{◌/◌, IfSome, IsTrue, if◌then◌else◌}
use Rattle.std.proofs.lemmas.Bool.{false≢true, cond_both}
use Rattle.jz_words.specs.declared.size.Size.{Size}
use Rattle.jz_words.specs.declared.size.Size.TheVariants.{S8, S16, S32, S64}
use Rattle.x64_insn.specs.declared.types.Reg.{Reg}
use Rattle.x64_insn.specs.declared.types.Operand.TheVariants as operand
use Rattle.x64_insn.specs.declared.types.Insn.TheVariants as insn
use Rattle.x64_insn.specs.declared.types.Cond.{Cond}
use Rattle.x64_insn.specs.declared.types.Width.{Width}
use Rattle.x64_insn.specs.declared.types.Width.TheVariants.{Rel8, Rel32}
use Rattle.x64_insn.specs.declared.types.Reg.TheVariants as reg
use Rattle.x64_insn.specs.declared.table.Row.{Row}
use Rattle.x64_insn.specs.declared.table.Row.TheVariants as row
use Rattle.x64_insn.specs.Table.{number_of, row_of, allows, has_modrm, immediate_length, has_w, takes_modrm, prefixed_size, b_of, one_byte_row, width_length}
use Rattle.x64_insn.specs.Encoding.{AreFields, AreBytes, signed_of, spelling_of, Spells, StandsIf, is_rex, displacement_length, reg_of_opcode}
use Rattle.x64_insn.specs.Chosen.{signed_bytes, fits_bytes, operand_size_for, with_number, is_no_byte, w_for, rex_with, condition_number, opcode_alone, with_opcode_register, jcc_fields, jmp_fields, has_byte_order}
use Rattle.x64_insn.proofs.Immediates.{one_byte, signed_are_bytes, four_bytes, eight_bytes}
use Rattle.x64_insn.proofs.RexBits.{b_is, w_small, size_is, has_w_is, rex_ok}
use Rattle.x64_insn.proofs.AddressFields.{register_is, high_small, low_small}
use Rattle.x64_insn.proofs.OpcodeRows.{bswap_row, wide_row, jcc_short, jcc_near}
use Rattle.x64_insn.proofs.ModrmSpellings.{means}
use Rattle.x64_insn.proofs.PairSpellings.{by_fields, mov_full}

-- no ModRM stands behind a row that has none
stands_not : (w : Row) (rex : Option ℕ) → has_modrm w ≡ false → StandsIf (has_modrm w) (takes_modrm w rex) None
stands_not w rex h = subst (λ (v : Bool). StandsIf v (takes_modrm w rex) None) (sym h) tt

-- ---- an opcode alone
alone_fields : (w : Row) (escape : Option ℕ) (o : ℕ) (immediate : List ℕ) → row_of escape o ≡ Some w → IfSome escape (λ b. b ≡ 0x0F) → has_modrm w ≡ false → allows w None None ≡ true → AreBytes (immediate_length w None None 0) immediate → AreFields (opcode_alone escape o immediate)
unfolding displacement_length
alone_fields w escape o immediate e esc bare ok bytes = record {
  row = w;
  in_table = e;
  operand_size = tt;
  rex = tt;
  escape = esc;
  prefixes = ok;
  modrm = stands_not w None bare;
  sib = tt;
  displacement = (refl, refl);
  immediate = bytes;
}

pub jcc_spells : (w : Width) (c : Cond) (i : ℤ) → fits_bytes (width_length w) i ≡ true → Spells (spelling_of (jcc_fields c w i)) (insn.Jcc c w i)
jcc_spells Rel8 c i h = let f = jcc_fields c Rel8 i in
    by_fields f _ (alone_fields (row.Jcc c Rel8) None (0x70 + condition_number c) (signed_bytes 1 i) (jcc_short c) tt refl refl (signed_are_bytes 1 i)) (means (row.Jcc c Rel8) f (jcc_short c) ∙ ap (λ v. insn.Jcc c Rel8 v) (one_byte i h))
jcc_spells Rel32 c i h = let f = jcc_fields c Rel32 i in
    by_fields f _ (alone_fields (row.Jcc c Rel32) (Some 0x0F) (0x80 + condition_number c) (signed_bytes 4 i) (jcc_near c) refl refl refl (signed_are_bytes 4 i)) (means (row.Jcc c Rel32) f (jcc_near c) ∙ ap (λ v. insn.Jcc c Rel32 v) (four_bytes i h))

row_eb : row_of None 0xEB ≡ Some (row.Jmp Rel8)
unfolding one_byte_row
row_eb = refl

row_e9 : row_of None 0xE9 ≡ Some (row.Jmp Rel32)
unfolding one_byte_row
row_e9 = refl

row_e8 : row_of None 0xE8 ≡ Some row.Call
unfolding one_byte_row
row_e8 = refl

row_c3 : row_of None 0xC3 ≡ Some row.Ret
unfolding one_byte_row
row_c3 = refl

row_99 : row_of None 0x99 ≡ Some row.CdqCqo
unfolding one_byte_row
row_99 = refl

pub jmp_spells : (w : Width) (i : ℤ) → fits_bytes (width_length w) i ≡ true → Spells (spelling_of (jmp_fields w i)) (insn.Jmp w i)
jmp_spells Rel8 i h = let f = jmp_fields Rel8 i in
    by_fields f _ (alone_fields (row.Jmp Rel8) None 0xEB (signed_bytes 1 i) row_eb tt refl refl (signed_are_bytes 1 i)) (means (row.Jmp Rel8) f row_eb ∙ ap (λ v. insn.Jmp Rel8 v) (one_byte i h))
jmp_spells Rel32 i h = let f = jmp_fields Rel32 i in
    by_fields f _ (alone_fields (row.Jmp Rel32) None 0xE9 (signed_bytes 4 i) row_e9 tt refl refl (signed_are_bytes 4 i)) (means (row.Jmp Rel32) f row_e9 ∙ ap (λ v. insn.Jmp Rel32 v) (four_bytes i h))

pub call_spells : (i : ℤ) → fits_bytes 4 i ≡ true → Spells (spelling_of (opcode_alone None 0xE8 (signed_bytes 4 i))) (insn.Call i)
call_spells i h = let f = opcode_alone None 0xE8 (signed_bytes 4 i) in
    by_fields f _ (alone_fields row.Call None 0xE8 (signed_bytes 4 i) row_e8 tt refl refl (signed_are_bytes 4 i)) (means row.Call f row_e8 ∙ ap (λ v. insn.Call v) (four_bytes i h))

pub ret_spells : Spells (spelling_of (opcode_alone None 0xC3 [])) insn.Ret
ret_spells = by_fields (opcode_alone None 0xC3 []) _ (alone_fields row.Ret None 0xC3 [] row_c3 tt refl refl (refl, refl)) (means row.Ret (opcode_alone None 0xC3 []) row_c3)

pub cdq_spells : Spells (spelling_of (opcode_alone None 0x99 [])) insn.Cdq
cdq_spells = by_fields (opcode_alone None 0x99 []) _ (alone_fields row.CdqCqo None 0x99 [] row_99 tt refl refl (refl, refl)) (means row.CdqCqo (opcode_alone None 0x99 []) row_99)

-- ---- a register in the opcode
-- sizes without the prefix 66
opcode_fields : (w : Row) (size : Size) (escape : Option ℕ) (o : ℕ) (r : Reg) (immediate : List ℕ) → operand_size_for size ≡ None → row_of escape (o + number_of r % 8) ≡ Some w → IfSome escape (λ b. b ≡ 0x0F) → has_modrm w ≡ false
    → allows w None (rex_with (w_for size) 0 0 (number_of r / 8) false) ≡ true → AreBytes (immediate_length w None (rex_with (w_for size) 0 0 (number_of r / 8) false) 0) immediate → AreFields (with_opcode_register size escape o r immediate)
unfolding displacement_length
opcode_fields w size escape o r immediate without e esc bare ok bytes = record {
  row = w;
  in_table = e;
  operand_size = tt;
  rex = subst (λ p. IfSome (rex_with (w_for size) 0 0 (number_of r / 8) false) (λ v. IsTrue (is_rex p v))) without (rex_ok size 0 0 (number_of r / 8) false (omega arith) (omega arith) (high_small r));
  escape = esc;
  prefixes = ok;
  modrm = stands_not w (rex_with (w_for size) 0 0 (number_of r / 8) false) bare;
  sib = tt;
  displacement = (refl, refl);
  immediate = bytes;
}

opcode_reg : (size : Size) (escape : Option ℕ) (o : ℕ) (r : Reg) (immediate : List ℕ) → o % 8 ≡ 0 → reg_of_opcode (with_opcode_register size escape o r immediate) ≡ r
opcode_reg size escape o r immediate h =
    let b : b_of (rex_with (w_for size) 0 0 (number_of r / 8) false) ≡ number_of r / 8 = b_is (w_for size) 0 0 (number_of r / 8) false (w_small size) (omega arith) (omega arith) (high_small r) in
    let l : (o + number_of r % 8) % 8 ≡ number_of r % 8 = omega (arith, h) in
    register_is _ _ r b l

wide_means : (r : Reg) → has_w (rex_with 1 0 0 (number_of r / 8) false) ≡ true
wide_means r = has_w_is 0 0 (number_of r / 8) false (omega arith) (omega arith) (high_small r)

mov_wide : (r : Reg) (i : ℤ) → fits_bytes 8 i ≡ true → Spells (spelling_of (with_opcode_register S64 None 0xB8 r (signed_bytes 8 i))) (insn.Mov S64 (operand.Reg r) (operand.Imm i))
mov_wide r i h =
    let bs = signed_bytes 8 i in
    let f = with_opcode_register S64 None 0xB8 r bs in
    let e = wide_row (number_of r % 8) (low_small r) in
    by_fields f _ (opcode_fields row.MovRegImm64 S64 None 0xB8 r bs refl e tt refl (wide_means r) (signed_are_bytes 8 i))
    (means row.MovRegImm64 f e ∙ ap (λ v. insn.Mov S64 (operand.Reg v) (operand.Imm (signed_of bs))) (opcode_reg S64 None 0xB8 r bs refl) ∙ ap (λ v. insn.Mov S64 (operand.Reg r) (operand.Imm v)) (eight_bytes i h))

bswap_at : (size : Size) (r : Reg) → operand_size_for size ≡ None → is_no_byte size ≡ true → Spells (spelling_of (with_opcode_register size (Some 0x0F) 0xC8 r [])) (insn.Bswap size r)
bswap_at size r without more =
    let f = with_opcode_register size (Some 0x0F) 0xC8 r [] in
    let e = bswap_row (number_of r % 8) (low_small r) in
    let s : prefixed_size None (rex_with (w_for size) 0 0 (number_of r / 8) false) ≡ size = subst (λ p. prefixed_size p (rex_with (w_for size) 0 0 (number_of r / 8) false) ≡ size) without (size_is size 0 0 (number_of r / 8) false (omega arith) (omega arith) (high_small r) more) in
    by_fields f _ (opcode_fields row.Bswap size (Some 0x0F) 0xC8 r [] without e refl refl refl (refl, refl))
    (means row.Bswap f e ∙ ap (λ v. insn.Bswap v (reg_of_opcode f)) s ∙ ap (λ v. insn.Bswap size v) (opcode_reg size (Some 0x0F) 0xC8 r [] refl))

pub bswap_spells : (size : Size) (r : Reg) → has_byte_order size ≡ true → Spells (spelling_of (with_opcode_register size (Some 0x0F) 0xC8 r [])) (insn.Bswap size r)
bswap_spells S8 r h = absurd (false≢true h)
bswap_spells S16 r h = absurd (false≢true h)
bswap_spells S32 r h = bswap_at S32 r refl refl
bswap_spells S64 r h = bswap_at S64 r refl refl

pub cqo_spells : Spells (spelling_of (with_opcode_register S64 None 0x99 reg.Rax [])) insn.Cqo
cqo_spells = by_fields (with_opcode_register S64 None 0x99 reg.Rax []) _ (opcode_fields row.CdqCqo S64 None 0x99 reg.Rax [] refl row_99 tt refl refl (refl, refl)) (means row.CdqCqo (with_opcode_register S64 None 0x99 reg.Rax []) row_99)

-- ---- MOV of an immediate to a register of 64 bits
pub mov_either : (r : Reg) (i : ℤ) → fits_bytes 8 i ≡ true → Spells (spelling_of (if fits_bytes 4 i then with_number S64 0xC7 0 (operand.Reg r) (signed_bytes 4 i) else with_opcode_register S64 None 0xB8 r (signed_bytes 8 i))) (insn.Mov S64 (operand.Reg r) (operand.Imm i))
mov_either r i h =
    cond_both (fits_bytes 4 i) (with_number S64 0xC7 0 (operand.Reg r) (signed_bytes 4 i)) (with_opcode_register S64 None 0xB8 r (signed_bytes 8 i)) (λ f. Spells (spelling_of f) (insn.Mov S64 (operand.Reg r) (operand.Imm i)))
    (λ e. mov_full S64 (operand.Reg r) i refl e) (λ e. mov_wide r i h)
