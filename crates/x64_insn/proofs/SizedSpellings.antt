-- Rows with a ModRM whose operands have more than one byte, extensions, LEA and SETcc.
use Rattle.std.proofs.Common.{◌≡◌, ℕ, ◌+◌, ◌%◌, ◌<◌, List, [], Bool, true, false, Option, Some, None, ℤ, refl, sym, ap, ◌∙◌, subst, arith}
use Rattle.std.specs.Prelude.{is_none, IfSome, if◌then◌else◌}
use Rattle.std.proofs.lemmas.Bool.{false≢true, cond_both}
use Rattle.jz_words.specs.declared.size.Size.{Size}
use Rattle.jz_words.specs.declared.size.Size.TheVariants.{S8, S16, S32, S64}
use Rattle.x64_insn.specs.declared.types.Alu.{Alu}
use Rattle.x64_insn.specs.declared.types.Reg.{Reg}
use Rattle.x64_insn.specs.declared.types.Operand.{Operand}
use Rattle.x64_insn.specs.declared.types.Operand.TheVariants as operand
use Rattle.x64_insn.specs.declared.types.Insn.TheVariants as insn
use Rattle.x64_insn.specs.declared.types.Cond.{Cond}
use Rattle.x64_insn.specs.declared.types.Mem.{Mem}
use Rattle.x64_insn.specs.declared.table.Row.{Row}
use Rattle.x64_insn.specs.declared.table.Row.TheVariants as row
use Rattle.x64_insn.specs.Table.{number_of, row_of, allows, has_modrm, takes_reg_field, has_byte_reg, has_byte_rm, is_lea, immediate_by, one_byte_row, escaped_row}
use Rattle.x64_insn.specs.Encoding.{AreFields, AreBytes, signed_of, spelling_of, Spells}
use Rattle.x64_insn.specs.Chosen.{alu_number, opcode_for, signed_bytes, fits_bytes, operand_size_for, needs_rex, with_number, is_rm, is_test, is_no_byte, modrm_fields, condition_number, extend_fields, imul_by_fields, alu_immediate, is_extension, is_address}
use Rattle.x64_insn.proofs.Registers.{number_small}
use Rattle.x64_insn.proofs.Immediates.{sized_bytes, one_byte, signed_are_bytes}
use Rattle.x64_insn.proofs.OpcodeRows.{alu_small, operation_back, set_row, cmov_row}
use Rattle.x64_insn.proofs.RexBits.{size_is, has_w_is}
use Rattle.x64_insn.proofs.PairSpellings.{by_fields, alu_full}
use Rattle.x64_insn.proofs.NumberSpellings.{no_immediate}
use Rattle.x64_insn.proofs.ModrmSpellings.{memory_means, Suits, HasImmediate, modrm_are_fields, rm_means, field_means, reg_means, sized_means, immediate_means, insn_means}

-- a row without registers of one byte that takes all prefixes
pub record Wider (w : Row) (n : ℕ) : Type 0 where
  pub has : has_modrm w ≡ true
  pub allowed : (p rex : Option ℕ) → allows w p rex ≡ true
  pub field : takes_reg_field w n ≡ true
  pub no_lea : is_lea w ≡ false
  pub no_byte_reg : has_byte_reg w ≡ false
  pub no_byte_rm : has_byte_rm w ≡ false

wider_suits : (w : Row) (size : Size) (needed : Bool) (number : ℕ) (rm : Operand) → Wider w (number % 8) → Suits w size needed number rm
wider_suits w size needed number rm p = record {
  has = p.has;
  allowed = λ r x b hr hx hb. p.allowed _ _;
  field = p.field;
  address = λ l. absurd (false≢true (sym p.no_lea ∙ l));
  reg_byte = λ l. absurd (false≢true (sym p.no_byte_reg ∙ l));
  rm_byte = λ l. absurd (false≢true (sym p.no_byte_rm ∙ l));
}

wider_fields : (w : Row) (size : Size) (needed : Bool) (escape : Option ℕ) (opcode number : ℕ) (rm : Operand) (immediate : List ℕ) → row_of escape opcode ≡ Some w → IfSome escape (λ b. b ≡ 0x0F) → number < 16 → is_rm rm ≡ true
    → Wider w (number % 8) → HasImmediate w size needed (number % 8) immediate → AreFields (modrm_fields size needed escape opcode number rm immediate)
wider_fields w size needed escape opcode number rm immediate e esc small ok p bytes = modrm_are_fields w size needed escape opcode number rm immediate e esc small ok (wider_suits w size needed number rm p) bytes

-- ---- an operation with an immediate of one byte
row_83 : row_of None 0x83 ≡ Some row.AluRmImm8
unfolding one_byte_row
row_83 = refl

alu_short : (a : Alu) (size : Size) (rm : Operand) (i : ℤ) → is_test a ≡ false → is_no_byte size ≡ true → is_rm rm ≡ true → fits_bytes 1 i ≡ true → Spells (spelling_of (with_number size 0x83 (alu_number a) rm (signed_bytes 1 i))) (insn.Alu a size rm (operand.Imm i))
alu_short a size rm i h more ok fits =
    let needed = needs_rex size rm in
    let bs = signed_bytes 1 i in
    let n = alu_number a in
    let small : n < 16 = omega (arith, alu_small a) in
    let f = with_number size 0x83 n rm bs in
    let value : signed_of f.immediate ≡ i = ap (λ v. signed_of v) (immediate_means size needed None 0x83 bs n rm) ∙ one_byte i fits in
    by_fields f _ (wider_fields row.AluRmImm8 size needed None 0x83 n rm bs row_83 tt small ok (record { has = refl; allowed = λ p rex. refl; field = refl; no_lea = refl; no_byte_reg = refl; no_byte_rm = refl }) (λ r x b hr hx hb. signed_are_bytes 1 i))
    (insn_means size needed None 0x83 bs row.AluRmImm8 n rm row_83
    ∙ rw (field_means size needed None 0x83 bs n rm small ok, operation_back a h, sized_means size needed None 0x83 bs n rm small ok more, rm_means size needed None 0x83 bs n rm small ok, value) refl)

either_length : (a : Alu) (size : Size) (rm : Operand) (i : ℤ) → is_test a ≡ false → is_no_byte size ≡ true → is_rm rm ≡ true → fits_bytes (immediate_by size) i ≡ true
    → Spells (spelling_of (if fits_bytes 1 i then with_number size 0x83 (alu_number a) rm (signed_bytes 1 i) else with_number size (opcode_for size 0x80) (alu_number a) rm (signed_bytes (immediate_by size) i))) (insn.Alu a size rm (operand.Imm i))
either_length a size rm i h more ok fits =
    cond_both (fits_bytes 1 i) (with_number size 0x83 (alu_number a) rm (signed_bytes 1 i)) (with_number size (opcode_for size 0x80) (alu_number a) rm (signed_bytes (immediate_by size) i)) (λ f. Spells (spelling_of f) (insn.Alu a size rm (operand.Imm i)))
    (λ e. alu_short a size rm i h more ok e) (λ e. alu_full a size rm i h ok fits)

pub alu_rm_imm : (a : Alu) (size : Size) (rm : Operand) (i : ℤ) → is_test a ≡ false → is_rm rm ≡ true → fits_bytes (immediate_by size) i ≡ true → Spells (spelling_of (alu_immediate a size rm i)) (insn.Alu a size rm (operand.Imm i))
alu_rm_imm a S8 rm i h ok fits = alu_full a S8 rm i h ok fits
alu_rm_imm a S16 rm i h ok fits = either_length a S16 rm i h refl ok fits
alu_rm_imm a S32 rm i h ok fits = either_length a S32 rm i h refl ok fits
alu_rm_imm a S64 rm i h ok fits = either_length a S64 rm i h refl ok fits

-- ---- IMUL
row_af : row_of (Some 0x0F) 0xAF ≡ Some row.ImulRegRm
unfolding escaped_row
row_af = refl

row_69 : row_of None 0x69 ≡ Some row.ImulRmImm
unfolding one_byte_row
row_69 = refl

row_6b : row_of None 0x6B ≡ Some row.ImulRmImm8
unfolding one_byte_row
row_6b = refl

pub imul_spells : (size : Size) (r : Reg) (rm : Operand) → is_no_byte size ≡ true → is_rm rm ≡ true → Spells (spelling_of (modrm_fields size false (Some 0x0F) 0xAF (number_of r) rm [])) (insn.Imul size r rm)
imul_spells size r rm more ok =
    let n = number_of r in
    let small = number_small r in
    by_fields (modrm_fields size false (Some 0x0F) 0xAF n rm []) _
    (wider_fields row.ImulRegRm size false (Some 0x0F) 0xAF n rm [] row_af refl small ok (record { has = refl; allowed = λ p rex. refl; field = refl; no_lea = refl; no_byte_reg = refl; no_byte_rm = refl }) (no_immediate row.ImulRegRm size false (n % 8) (λ p rex. refl)))
    (insn_means size false (Some 0x0F) 0xAF [] row.ImulRegRm n rm row_af
    ∙ rw (sized_means size false (Some 0x0F) 0xAF [] n rm small ok more, reg_means size false (Some 0x0F) 0xAF [] r rm ok, rm_means size false (Some 0x0F) 0xAF [] n rm small ok) refl)

imul_short : (size : Size) (r : Reg) (rm : Operand) (i : ℤ) → is_no_byte size ≡ true → is_rm rm ≡ true → fits_bytes 1 i ≡ true → Spells (spelling_of (modrm_fields size false None 0x6B (number_of r) rm (signed_bytes 1 i))) (insn.ImulBy size r rm i)
imul_short size r rm i more ok fits =
    let n = number_of r in
    let small = number_small r in
    let bs = signed_bytes 1 i in
    let f = modrm_fields size false None 0x6B n rm bs in
    let value : signed_of f.immediate ≡ i = ap (λ v. signed_of v) (immediate_means size false None 0x6B bs n rm) ∙ one_byte i fits in
    by_fields f _
    (wider_fields row.ImulRmImm8 size false None 0x6B n rm bs row_6b tt small ok (record { has = refl; allowed = λ p rex. refl; field = refl; no_lea = refl; no_byte_reg = refl; no_byte_rm = refl }) (λ q x b hr hx hb. signed_are_bytes 1 i))
    (insn_means size false None 0x6B bs row.ImulRmImm8 n rm row_6b
    ∙ rw (sized_means size false None 0x6B bs n rm small ok more, reg_means size false None 0x6B bs r rm ok, rm_means size false None 0x6B bs n rm small ok, value) refl)

imul_full : (size : Size) (r : Reg) (rm : Operand) (i : ℤ) → is_no_byte size ≡ true → is_rm rm ≡ true → fits_bytes (immediate_by size) i ≡ true → Spells (spelling_of (modrm_fields size false None 0x69 (number_of r) rm (signed_bytes (immediate_by size) i))) (insn.ImulBy size r rm i)
imul_full size r rm i more ok fits =
    let n = number_of r in
    let small = number_small r in
    let bs = signed_bytes (immediate_by size) i in
    let f = modrm_fields size false None 0x69 n rm bs in
    let value : signed_of f.immediate ≡ i = ap (λ v. signed_of v) (immediate_means size false None 0x69 bs n rm) ∙ sized_bytes size i fits in
    by_fields f _
    (wider_fields row.ImulRmImm size false None 0x69 n rm bs row_69 tt small ok (record { has = refl; allowed = λ p rex. refl; field = refl; no_lea = refl; no_byte_reg = refl; no_byte_rm = refl })
    (λ q x b hr hx hb. subst (λ s. AreBytes (immediate_by s) bs) (sym (size_is size q x b false hr hx hb more)) (signed_are_bytes (immediate_by size) i)))
    (insn_means size false None 0x69 bs row.ImulRmImm n rm row_69
    ∙ rw (sized_means size false None 0x69 bs n rm small ok more, reg_means size false None 0x69 bs r rm ok, rm_means size false None 0x69 bs n rm small ok, value) refl)

pub imul_by_spells : (size : Size) (r : Reg) (rm : Operand) (i : ℤ) → is_no_byte size ≡ true → is_rm rm ≡ true → fits_bytes (immediate_by size) i ≡ true → Spells (spelling_of (imul_by_fields size r rm i)) (insn.ImulBy size r rm i)
imul_by_spells size r rm i more ok fits =
    cond_both (fits_bytes 1 i) (modrm_fields size false None 0x6B (number_of r) rm (signed_bytes 1 i)) (modrm_fields size false None 0x69 (number_of r) rm (signed_bytes (immediate_by size) i)) (λ f. Spells (spelling_of f) (insn.ImulBy size r rm i))
    (λ e. imul_short size r rm i more ok e) (λ e. imul_full size r rm i more ok fits)

-- ---- CMOVcc and SETcc
pub cmov_spells : (c : Cond) (size : Size) (r : Reg) (rm : Operand) → is_no_byte size ≡ true → is_rm rm ≡ true → Spells (spelling_of (modrm_fields size false (Some 0x0F) (0x40 + condition_number c) (number_of r) rm [])) (insn.Cmov c size r rm)
cmov_spells c size r rm more ok =
    let n = number_of r in
    let small = number_small r in
    let o = 0x40 + condition_number c in
    by_fields (modrm_fields size false (Some 0x0F) o n rm []) _
    (wider_fields (row.Cmov c) size false (Some 0x0F) o n rm [] (cmov_row c) refl small ok (record { has = refl; allowed = λ p rex. refl; field = refl; no_lea = refl; no_byte_reg = refl; no_byte_rm = refl }) (no_immediate (row.Cmov c) size false (n % 8) (λ p rex. refl)))
    (insn_means size false (Some 0x0F) o [] (row.Cmov c) n rm (cmov_row c)
    ∙ rw (sized_means size false (Some 0x0F) o [] n rm small ok more, reg_means size false (Some 0x0F) o [] r rm ok, rm_means size false (Some 0x0F) o [] n rm small ok) refl)

pub set_spells : (c : Cond) (rm : Operand) → is_rm rm ≡ true → Spells (spelling_of (modrm_fields S8 (needs_rex S8 rm) (Some 0x0F) (0x90 + condition_number c) 0 rm [])) (insn.Set c rm)
set_spells c rm ok =
    let needed = needs_rex S8 rm in
    let o = 0x90 + condition_number c in
    let small : 0 < 16 = omega arith in
    by_fields (modrm_fields S8 needed (Some 0x0F) o 0 rm []) _
    (modrm_are_fields (row.Set c) S8 needed (Some 0x0F) o 0 rm [] (set_row c) refl small ok
    (record { has = refl; allowed = λ r x b hr hx hb. refl; field = refl; address = λ l. absurd (false≢true l); reg_byte = λ l. absurd (false≢true l); rm_byte = λ l k. k }) (no_immediate (row.Set c) S8 needed 0 (λ p rex. refl)))
    (insn_means S8 needed (Some 0x0F) o [] (row.Set c) 0 rm (set_row c) ∙ rw (rm_means S8 needed (Some 0x0F) o [] 0 rm small ok) refl)

-- ---- LEA
row_8d : row_of None 0x8D ≡ Some row.Lea
unfolding one_byte_row
row_8d = refl

pub lea_spells : (r : Reg) (a : Mem) → is_address a ≡ true → Spells (spelling_of (modrm_fields S64 false None 0x8D (number_of r) (operand.Mem a) [])) (insn.Lea r a)
lea_spells r a ok =
    let n = number_of r in
    let small = number_small r in
    let rm = operand.Mem a in
    by_fields (modrm_fields S64 false None 0x8D n rm []) _
    (modrm_are_fields row.Lea S64 false None 0x8D n rm [] row_8d tt small ok
    (record { has = refl; allowed = λ q x b hr hx hb. has_w_is q x b false hr hx hb; field = refl; address = λ l. ok; reg_byte = λ l. absurd (false≢true l); rm_byte = λ l. absurd (false≢true l) }) (no_immediate row.Lea S64 false (n % 8) (λ p rex. refl)))
    (insn_means S64 false None 0x8D [] row.Lea n rm row_8d
    ∙ rw (reg_means S64 false None 0x8D [] r rm ok, memory_means S64 false None 0x8D [] n a small ok) refl)

-- ---- extensions
extend_at : (sign : Bool) (to from : Size) (r : Reg) (rm : Operand) (needed : Bool) (escape : Option ℕ) (o : ℕ) → row_of escape o ≡ Some (row.Extend sign from) → IfSome escape (λ b. b ≡ 0x0F) → is_no_byte to ≡ true → is_rm rm ≡ true
    → Suits (row.Extend sign from) to needed (number_of r) rm → Spells (spelling_of (modrm_fields to needed escape o (number_of r) rm [])) (insn.Extend sign to from r rm)
extend_at sign to from r rm needed escape o e esc more ok suits =
    let n = number_of r in
    let small = number_small r in
    by_fields (modrm_fields to needed escape o n rm []) _
    (modrm_are_fields (row.Extend sign from) to needed escape o n rm [] e esc small ok suits (no_immediate (row.Extend sign from) to needed (n % 8) (λ p rex. refl)))
    (insn_means to needed escape o [] (row.Extend sign from) n rm e
    ∙ rw (sized_means to needed escape o [] n rm small ok more, reg_means to needed escape o [] r rm ok, rm_means to needed escape o [] n rm small ok) refl)

byte_suits : (sign : Bool) (to : Size) (n : ℕ) (rm : Operand) → Suits (row.Extend sign S8) to (needs_rex S8 rm) n rm
byte_suits sign to n rm = record { has = refl; allowed = λ q x b hr hx hb. refl; field = refl; address = λ l. absurd (false≢true l); reg_byte = λ l. absurd (false≢true l); rm_byte = λ l k. k }

-- from 16 bits to 32 and 64
no_16 : Size → Bool
no_16 S16 = false
no_16 other = true

no_prefix : (to : Size) → no_16 to ≡ true → is_none (operand_size_for to) ≡ true
unfolding no_16
no_prefix S8 h = refl
no_prefix S16 h = absurd (false≢true h)
no_prefix S32 h = refl
no_prefix S64 h = refl

word_suits : (sign : Bool) (to : Size) (n : ℕ) (rm : Operand) (needed : Bool) → no_16 to ≡ true → Suits (row.Extend sign S16) to needed n rm
word_suits sign to n rm needed h = record { has = refl; allowed = λ q x b hr hx hb. no_prefix to h; field = refl; address = λ l. absurd (false≢true l); reg_byte = λ l. absurd (false≢true l); rm_byte = λ l. absurd (false≢true l) }

long_suits : (n : ℕ) (rm : Operand) → Suits (row.Extend true S32) S64 false n rm
long_suits n rm = record { has = refl; allowed = λ q x b hr hx hb. has_w_is q x b false hr hx hb; field = refl; address = λ l. absurd (false≢true l); reg_byte = λ l. absurd (false≢true l); rm_byte = λ l. absurd (false≢true l) }

row_63 : row_of None 0x63 ≡ Some (row.Extend true S32)
unfolding one_byte_row
row_63 = refl

row_b6 : row_of (Some 0x0F) 0xB6 ≡ Some (row.Extend false S8)
unfolding escaped_row
row_b6 = refl

row_b7 : row_of (Some 0x0F) 0xB7 ≡ Some (row.Extend false S16)
unfolding escaped_row
row_b7 = refl

row_be : row_of (Some 0x0F) 0xBE ≡ Some (row.Extend true S8)
unfolding escaped_row
row_be = refl

row_bf : row_of (Some 0x0F) 0xBF ≡ Some (row.Extend true S16)
unfolding escaped_row
row_bf = refl

from_byte : (sign : Bool) (to : Size) (r : Reg) (rm : Operand) → is_no_byte to ≡ true → is_rm rm ≡ true → Spells (spelling_of (extend_fields sign to S8 r rm)) (insn.Extend sign to S8 r rm)
from_byte false to r rm more ok = extend_at false to S8 r rm (needs_rex S8 rm) (Some 0x0F) 0xB6 row_b6 refl more ok (byte_suits false to (number_of r) rm)
from_byte true to r rm more ok = extend_at true to S8 r rm (needs_rex S8 rm) (Some 0x0F) 0xBE row_be refl more ok (byte_suits true to (number_of r) rm)

from_word : (sign : Bool) (to : Size) (r : Reg) (rm : Operand) → no_16 to ≡ true → is_no_byte to ≡ true → is_rm rm ≡ true → Spells (spelling_of (extend_fields sign to S16 r rm)) (insn.Extend sign to S16 r rm)
from_word false to r rm wide more ok = extend_at false to S16 r rm (needs_rex S16 rm) (Some 0x0F) 0xB7 row_b7 refl more ok (word_suits false to (number_of r) rm (needs_rex S16 rm) wide)
from_word true to r rm wide more ok = extend_at true to S16 r rm (needs_rex S16 rm) (Some 0x0F) 0xBF row_bf refl more ok (word_suits true to (number_of r) rm (needs_rex S16 rm) wide)

pub extend_spells : (sign : Bool) (to from : Size) (r : Reg) (rm : Operand) → is_extension sign to from ≡ true → is_rm rm ≡ true → Spells (spelling_of (extend_fields sign to from r rm)) (insn.Extend sign to from r rm)
unfolding no_16
extend_spells sign S16 S8 r rm h ok = from_byte sign S16 r rm refl ok
extend_spells sign S32 S8 r rm h ok = from_byte sign S32 r rm refl ok
extend_spells sign S64 S8 r rm h ok = from_byte sign S64 r rm refl ok
extend_spells sign S32 S16 r rm h ok = from_word sign S32 r rm refl refl ok
extend_spells sign S64 S16 r rm h ok = from_word sign S64 r rm refl refl ok
extend_spells true S64 S32 r rm h ok = extend_at true S64 S32 r rm false None 0x63 row_63 tt refl ok (long_suits (number_of r) rm)
extend_spells sign to from r rm h ok = absurd (false≢true h)
