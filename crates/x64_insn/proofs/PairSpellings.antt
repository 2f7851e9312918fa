-- Rows of pairs of opcodes, of one byte and of the size of the prefixes: ALU, MOV, and the operations on one operand.
use Rattle.std.proofs.Common.{◌≡◌, ℕ, ◌+◌, ◌*◌, ◌%◌, ◌<◌, List, [], Bool, true, false, Option, Some, None, ℤ, refl, sym, ap, ◌∙◌, subst, arith}
use Rattle.std.specs.Prelude.{◌&&◌, ◌||◌, nat_lt, nat_le}
use Rattle.std.proofs.lemmas.Bool.{false≢true, or_left, or_right}
use Rattle.jz_words.specs.declared.size.Size.{Size}
use Rattle.jz_words.specs.declared.size.Size.TheVariants.{S8, S16, S32, S64}
use Rattle.x64_insn.specs.declared.types.Alu.{Alu}
use Rattle.x64_insn.specs.declared.types.Alu.TheVariants as alu
use Rattle.x64_insn.specs.declared.types.Reg.{Reg}
use Rattle.x64_insn.specs.declared.types.Operand.{Operand}
use Rattle.x64_insn.specs.declared.types.Operand.TheVariants as operand
use Rattle.x64_insn.specs.declared.types.Insn.{Insn}
use Rattle.x64_insn.specs.declared.types.Insn.TheVariants as insn
use Rattle.x64_insn.specs.declared.table.Operands.{Operands}
use Rattle.x64_insn.specs.declared.table.Operands.TheVariants.{Bytes, Sized}
use Rattle.x64_insn.specs.declared.table.Row.{Row}
use Rattle.x64_insn.specs.declared.table.Row.TheVariants as row
use Rattle.x64_insn.specs.Table.{number_of, row_of, allows, allows_by, has_modrm, takes_reg_field, has_byte_reg, has_byte_rm, is_lea, immediate_by, immediate_length}
use Rattle.x64_insn.specs.Encoding.{Fields, AreFields, AreBytes, signed_of, spelling_of, insn_of, group3, Spells}
use Rattle.x64_insn.specs.Chosen.{alu_number, opcode_for, signed_bytes, fits_bytes, needs_rex, with_register, with_number, is_rm, is_test}
use Rattle.x64_insn.proofs.Registers.{number_small}
use Rattle.x64_insn.proofs.Immediates.{sized_bytes, signed_are_bytes}
use Rattle.x64_insn.proofs.RexBits.{operands_for, allowed_by, size_by_is}
use Rattle.x64_insn.proofs.OpcodeRows.{rm_reg_row, reg_rm_row, test_row, mov_rm_reg_row, mov_reg_rm_row, alu_imm_row, mov_imm_row, group3_row, alu_small, operation_back}
use Rattle.x64_insn.proofs.ModrmSpellings.{Suits, HasImmediate, modrm_are_fields, rm_means, field_means, reg_means, size_means, immediate_means, insn_means}

pub by_fields : (f : Fields) (i : Insn) → AreFields f → insn_of f ≡ i → Spells (spelling_of f) i
by_fields f i are is = (f, are, refl, is)

-- ---- pairs of rows
pub record Pair (w : Operands → Row) : Type 0 where
  pub has : (o : Operands) → has_modrm (w o) ≡ true
  pub allowed : (o : Operands) (p rex : Option ℕ) → allows (w o) p rex ≡ allows_by o p
  pub no_lea : (o : Operands) → is_lea (w o) ≡ false
  pub no_byte_reg : has_byte_reg (w Sized) ≡ false
  pub no_byte_rm : has_byte_rm (w Sized) ≡ false

byte_needs : (w : Operands → Row) → has_byte_rm (w Sized) ≡ false → (size : Size) (rm : Operand) (needed : Bool) → (needs_rex size rm ≡ true → needed ≡ true) → has_byte_rm (w (operands_for size)) ≡ true → needs_rex S8 rm ≡ true → needed ≡ true
byte_needs w n S8 rm needed k l = k
byte_needs w n S16 rm needed k l = absurd (false≢true (sym n ∙ l))
byte_needs w n S32 rm needed k l = absurd (false≢true (sym n ∙ l))
byte_needs w n S64 rm needed k l = absurd (false≢true (sym n ∙ l))

reg_needs : (w : Operands → Row) → has_byte_reg (w Sized) ≡ false → (size : Size) (r : Reg) (rm : Operand) → has_byte_reg (w (operands_for size)) ≡ true → (nat_le 4 (number_of r) && nat_lt (number_of r) 8) ≡ true → (needs_rex size (operand.Reg r) || needs_rex size rm) ≡ true
reg_needs w n S8 r rm l k = or_left _ _ k
reg_needs w n S16 r rm l k = absurd (false≢true (sym n ∙ l))
reg_needs w n S32 r rm l k = absurd (false≢true (sym n ∙ l))
reg_needs w n S64 r rm l k = absurd (false≢true (sym n ∙ l))

no_reg : (w : Operands → Row) → has_byte_reg (w Sized) ≡ false → has_byte_reg (w Bytes) ≡ false → (size : Size) → has_byte_reg (w (operands_for size)) ≡ false
no_reg w p q S8 = q
no_reg w p q S16 = p
no_reg w p q S32 = p
no_reg w p q S64 = p

pair_suits : (w : Operands → Row) → Pair w → (size : Size) (needed : Bool) (number : ℕ) (rm : Operand) → takes_reg_field (w (operands_for size)) (number % 8) ≡ true
    → (has_byte_reg (w (operands_for size)) ≡ true → (nat_le 4 number && nat_lt number 8) ≡ true → needed ≡ true) → (needs_rex size rm ≡ true → needed ≡ true) → Suits (w (operands_for size)) size needed number rm
pair_suits w p size needed number rm field reg byte = record {
  has = p.has (operands_for size);
  allowed = λ r x b hr hx hb. p.allowed (operands_for size) _ _ ∙ allowed_by size;
  field = field;
  address = λ l. absurd (false≢true (sym (p.no_lea (operands_for size)) ∙ l));
  reg_byte = reg;
  rm_byte = byte_needs w p.no_byte_rm size rm needed byte;
}

register_fields : (w : Operands → Row) (o : ℕ) (size : Size) (r : Reg) (rm : Operand) → Pair w → ((k : Operands) (n : ℕ) → takes_reg_field (w k) n ≡ true) → ((k : Operands) (p rex : Option ℕ) (n : ℕ) → immediate_length (w k) p rex n ≡ 0)
    → row_of None (opcode_for size o) ≡ Some (w (operands_for size)) → is_rm rm ≡ true → AreFields (with_register size (opcode_for size o) r rm)
register_fields w o size r rm p field len e ok =
    modrm_are_fields (w (operands_for size)) size (needs_rex size (operand.Reg r) || needs_rex size rm) None (opcode_for size o) (number_of r) rm [] e tt (number_small r) ok
    (pair_suits w p size (needs_rex size (operand.Reg r) || needs_rex size rm) (number_of r) rm (field (operands_for size) (number_of r % 8)) (reg_needs w p.no_byte_reg size r rm) (λ k. or_right _ _ k))
    (λ q x b hr hx hb. subst (λ k. AreBytes k []) (sym (len (operands_for size) _ _ (number_of r % 8))) (refl, refl))

pub number_fields : (w : Operands → Row) (o : ℕ) (size : Size) (n : ℕ) (rm : Operand) (immediate : List ℕ) → Pair w → takes_reg_field (w (operands_for size)) (n % 8) ≡ true → has_byte_reg (w Bytes) ≡ false
    → row_of None (opcode_for size o) ≡ Some (w (operands_for size)) → n < 8 → is_rm rm ≡ true → HasImmediate (w (operands_for size)) size (needs_rex size rm) (n % 8) immediate → AreFields (with_number size (opcode_for size o) n rm immediate)
number_fields w o size n rm immediate p field bare e small ok bytes =
    modrm_are_fields (w (operands_for size)) size (needs_rex size rm) None (opcode_for size o) n rm immediate e tt (omega (arith, small)) ok
    (pair_suits w p size (needs_rex size rm) n rm field (λ l. absurd (false≢true (sym (no_reg w p.no_byte_reg bare size) ∙ l))) (λ k. k)) bytes

-- an immediate of the operands' size
sized_immediate : (size : Size) (needed : Bool) (i : ℤ) → HasImmediate (row.AluRmImm (operands_for size)) size needed 0 (signed_bytes (immediate_by size) i)
sized_immediate size needed i r x b hr hx hb = subst (λ s. AreBytes (immediate_by s) (signed_bytes (immediate_by size) i)) (sym (size_by_is size r x b needed hr hx hb)) (signed_are_bytes (immediate_by size) i)

-- ---- operations with a register
rm_reg_pair : (a : Alu) → Pair (λ o. row.AluRmReg a o)
rm_reg_pair a = record { has = λ o. refl; allowed = λ o p rex. refl; no_lea = λ o. refl; no_byte_reg = refl; no_byte_rm = refl }

reg_rm_pair : (a : Alu) → Pair (λ o. row.AluRegRm a o)
reg_rm_pair a = record { has = λ o. refl; allowed = λ o p rex. refl; no_lea = λ o. refl; no_byte_reg = refl; no_byte_rm = refl }

alu_to_rm : (a : Alu) (o : ℕ) (size : Size) (rm : Operand) (r : Reg) → row_of None (opcode_for size o) ≡ Some (row.AluRmReg a (operands_for size)) → is_rm rm ≡ true → Spells (spelling_of (with_register size (opcode_for size o) r rm)) (insn.Alu a size rm (operand.Reg r))
alu_to_rm a o size rm r e ok =
    let needed = needs_rex size (operand.Reg r) || needs_rex size rm in
    let c = opcode_for size o in
    by_fields (with_register size c r rm) _ (register_fields (λ k. row.AluRmReg a k) o size r rm (rm_reg_pair a) (λ k n. refl) (λ k p rex n. refl) e ok)
    (insn_means size needed None c [] (row.AluRmReg a (operands_for size)) (number_of r) rm e
    ∙ rw (size_means size needed None c [] (number_of r) rm (number_small r) ok, rm_means size needed None c [] (number_of r) rm (number_small r) ok, reg_means size needed None c [] r rm ok) refl)

pub alu_rm_reg : (a : Alu) (size : Size) (rm : Operand) (r : Reg) → is_test a ≡ false → is_rm rm ≡ true → Spells (spelling_of (with_register size (opcode_for size (8 * alu_number a)) r rm)) (insn.Alu a size rm (operand.Reg r))
alu_rm_reg a size rm r h ok = alu_to_rm a (8 * alu_number a) size rm r (rm_reg_row a size h) ok

pub test_rm_reg : (size : Size) (rm : Operand) (r : Reg) → is_rm rm ≡ true → Spells (spelling_of (with_register size (opcode_for size 0x84) r rm)) (insn.Alu alu.Test size rm (operand.Reg r))
test_rm_reg size rm r ok = alu_to_rm alu.Test 0x84 size rm r (test_row size) ok

pub alu_reg_rm : (a : Alu) (size : Size) (r : Reg) (rm : Operand) → is_test a ≡ false → is_rm rm ≡ true → Spells (spelling_of (with_register size (opcode_for size (8 * alu_number a + 2)) r rm)) (insn.Alu a size (operand.Reg r) rm)
alu_reg_rm a size r rm h ok =
    let needed = needs_rex size (operand.Reg r) || needs_rex size rm in
    let c = opcode_for size (8 * alu_number a + 2) in
    let e = reg_rm_row a size h in
    by_fields (with_register size c r rm) _ (register_fields (λ k. row.AluRegRm a k) (8 * alu_number a + 2) size r rm (reg_rm_pair a) (λ k n. refl) (λ k p rex n. refl) e ok)
    (insn_means size needed None c [] (row.AluRegRm a (operands_for size)) (number_of r) rm e
    ∙ rw (size_means size needed None c [] (number_of r) rm (number_small r) ok, rm_means size needed None c [] (number_of r) rm (number_small r) ok, reg_means size needed None c [] r rm ok) refl)

-- ---- MOV with a register
mov_rm_reg_pair : Pair (λ o. row.MovRmReg o)
mov_rm_reg_pair = record { has = λ o. refl; allowed = λ o p rex. refl; no_lea = λ o. refl; no_byte_reg = refl; no_byte_rm = refl }

mov_reg_rm_pair : Pair (λ o. row.MovRegRm o)
mov_reg_rm_pair = record { has = λ o. refl; allowed = λ o p rex. refl; no_lea = λ o. refl; no_byte_reg = refl; no_byte_rm = refl }

pub mov_rm_reg : (size : Size) (rm : Operand) (r : Reg) → is_rm rm ≡ true → Spells (spelling_of (with_register size (opcode_for size 0x88) r rm)) (insn.Mov size rm (operand.Reg r))
mov_rm_reg size rm r ok =
    let needed = needs_rex size (operand.Reg r) || needs_rex size rm in
    let c = opcode_for size 0x88 in
    let e = mov_rm_reg_row size in
    by_fields (with_register size c r rm) _ (register_fields (λ k. row.MovRmReg k) 0x88 size r rm mov_rm_reg_pair (λ k n. refl) (λ k p rex n. refl) e ok)
    (insn_means size needed None c [] (row.MovRmReg (operands_for size)) (number_of r) rm e
    ∙ rw (size_means size needed None c [] (number_of r) rm (number_small r) ok, rm_means size needed None c [] (number_of r) rm (number_small r) ok, reg_means size needed None c [] r rm ok) refl)

pub mov_reg_rm : (size : Size) (r : Reg) (rm : Operand) → is_rm rm ≡ true → Spells (spelling_of (with_register size (opcode_for size 0x8A) r rm)) (insn.Mov size (operand.Reg r) rm)
mov_reg_rm size r rm ok =
    let needed = needs_rex size (operand.Reg r) || needs_rex size rm in
    let c = opcode_for size 0x8A in
    let e = mov_reg_rm_row size in
    by_fields (with_register size c r rm) _ (register_fields (λ k. row.MovRegRm k) 0x8A size r rm mov_reg_rm_pair (λ k n. refl) (λ k p rex n. refl) e ok)
    (insn_means size needed None c [] (row.MovRegRm (operands_for size)) (number_of r) rm e
    ∙ rw (size_means size needed None c [] (number_of r) rm (number_small r) ok, rm_means size needed None c [] (number_of r) rm (number_small r) ok, reg_means size needed None c [] r rm ok) refl)

-- ---- immediates of the operands' size
alu_imm_pair : Pair (λ o. row.AluRmImm o)
alu_imm_pair = record { has = λ o. refl; allowed = λ o p rex. refl; no_lea = λ o. refl; no_byte_reg = refl; no_byte_rm = refl }

mov_imm_pair : Pair (λ o. row.MovRmImm o)
mov_imm_pair = record { has = λ o. refl; allowed = λ o p rex. refl; no_lea = λ o. refl; no_byte_reg = refl; no_byte_rm = refl }

pub group3_pair : Pair (λ o. row.Group3 o)
group3_pair = record { has = λ o. refl; allowed = λ o p rex. refl; no_lea = λ o. refl; no_byte_reg = refl; no_byte_rm = refl }

pub alu_full : (a : Alu) (size : Size) (rm : Operand) (i : ℤ) → is_test a ≡ false → is_rm rm ≡ true → fits_bytes (immediate_by size) i ≡ true
    → Spells (spelling_of (with_number size (opcode_for size 0x80) (alu_number a) rm (signed_bytes (immediate_by size) i))) (insn.Alu a size rm (operand.Imm i))
alu_full a size rm i h ok fits =
    let needed = needs_rex size rm in
    let c = opcode_for size 0x80 in
    let bs = signed_bytes (immediate_by size) i in
    let n = alu_number a in
    let e = alu_imm_row size in
    let small : n < 16 = omega (arith, alu_small a) in
    let f = with_number size c n rm bs in
    let value : signed_of f.immediate ≡ i = ap (λ v. signed_of v) (immediate_means size needed None c bs n rm) ∙ sized_bytes size i fits in
    by_fields f _ (number_fields (λ k. row.AluRmImm k) 0x80 size n rm bs alu_imm_pair refl refl e (alu_small a) ok (sized_immediate size needed i))
    (insn_means size needed None c bs (row.AluRmImm (operands_for size)) n rm e
    ∙ rw (field_means size needed None c bs n rm small ok, operation_back a h, size_means size needed None c bs n rm small ok, rm_means size needed None c bs n rm small ok, value) refl)

pub mov_full : (size : Size) (rm : Operand) (i : ℤ) → is_rm rm ≡ true → fits_bytes (immediate_by size) i ≡ true
    → Spells (spelling_of (with_number size (opcode_for size 0xC6) 0 rm (signed_bytes (immediate_by size) i))) (insn.Mov size rm (operand.Imm i))
mov_full size rm i ok fits =
    let needed = needs_rex size rm in
    let c = opcode_for size 0xC6 in
    let bs = signed_bytes (immediate_by size) i in
    let e = mov_imm_row size in
    let small : 0 < 16 = omega arith in
    let f = with_number size c 0 rm bs in
    let value : signed_of f.immediate ≡ i = ap (λ v. signed_of v) (immediate_means size needed None c bs 0 rm) ∙ sized_bytes size i fits in
    by_fields f _ (number_fields (λ k. row.MovRmImm k) 0xC6 size 0 rm bs mov_imm_pair refl refl e (omega arith) ok (sized_immediate size needed i))
    (insn_means size needed None c bs (row.MovRmImm (operands_for size)) 0 rm e
    ∙ rw (size_means size needed None c bs 0 rm small ok, rm_means size needed None c bs 0 rm small ok, value) refl)

test_taken : (size : Size) → takes_reg_field (row.Group3 (operands_for size)) 0 ≡ true
test_taken S8 = refl
test_taken S16 = refl
test_taken S32 = refl
test_taken S64 = refl

pub test_full : (size : Size) (rm : Operand) (i : ℤ) → is_rm rm ≡ true → fits_bytes (immediate_by size) i ≡ true
    → Spells (spelling_of (with_number size (opcode_for size 0xF6) 0 rm (signed_bytes (immediate_by size) i))) (insn.Alu alu.Test size rm (operand.Imm i))
unfolding group3
test_full size rm i ok fits =
    let needed = needs_rex size rm in
    let c = opcode_for size 0xF6 in
    let bs = signed_bytes (immediate_by size) i in
    let e = group3_row size in
    let small : 0 < 16 = omega arith in
    let f = with_number size c 0 rm bs in
    let value : signed_of f.immediate ≡ i = ap (λ v. signed_of v) (immediate_means size needed None c bs 0 rm) ∙ sized_bytes size i fits in
    by_fields f _ (number_fields (λ k. row.Group3 k) 0xF6 size 0 rm bs group3_pair (test_taken size) refl e (omega arith) ok (sized_immediate size needed i))
    (insn_means size needed None c bs (row.Group3 (operands_for size)) 0 rm e
    ∙ rw (field_means size needed None c bs 0 rm small ok, size_means size needed None c bs 0 rm small ok, rm_means size needed None c bs 0 rm small ok, value) refl)
