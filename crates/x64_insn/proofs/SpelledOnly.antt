-- Only instructions that pass the test have a spelling.
use Rattle.std.proofs.Common.{◌≡◌, ℕ, zero, suc, ◌/◌, ◌%◌, ◌^◌, List, [], ◌∷◌, length, Bool, true, false, not, Option, Some, None, refl, sym, ap, ◌∙◌, subst, arith}
use Rattle.std.specs.Prelude.{◌&&◌, ◌||◌, ◌==◌, nat_lt, nat_le, if◌then◌else◌, unwrap_or, is_none, is_some, slice_index_or}
use Rattle.std.specs.List.{list_all}
use Rattle.std.proofs.lemmas.Bool.{false≢true, and_parts, and_from, cond_both, lt-ltb}
use Rattle.std.proofs.lemmas.Bool.Decides.{nat_tests}
use Rattle.jz_words.specs.declared.size.Size.{Size}
use Rattle.jz_words.specs.declared.size.Size.TheVariants.{S8, S16, S32, S64}
use Rattle.x64_insn.specs.declared.types.Alu.{Alu}
use Rattle.x64_insn.specs.declared.types.Alu.TheVariants as alu
use Rattle.x64_insn.specs.declared.types.Reg.{Reg}
use Rattle.x64_insn.specs.declared.types.Operand.{Operand}
use Rattle.x64_insn.specs.declared.types.Operand.TheVariants as operand
use Rattle.x64_insn.specs.declared.types.Width.{Width}
use Rattle.x64_insn.specs.declared.types.Width.TheVariants.{Rel8, Rel32}
use Rattle.x64_insn.specs.declared.types.Insn.{Insn}
use Rattle.x64_insn.specs.declared.types.Insn.TheVariants as insn
use Rattle.x64_insn.specs.declared.table.Operands.{Operands}
use Rattle.x64_insn.specs.declared.table.Operands.TheVariants.{Bytes, Sized}
use Rattle.x64_insn.specs.declared.table.Row.{Row}
use Rattle.x64_insn.specs.declared.table.Row.TheVariants as row
use Rattle.x64_insn.specs.Table.{operations, operation_of, one_byte_row, escaped_row, row_of, has_w, prefixed_size, size_by, reg_field, allows, has_modrm, takes_reg_field, takes_modrm, immediate_by, immediate_length, width_length, operands_of, is_pair, is_one_of}
use Rattle.x64_insn.specs.Encoding.{Fields, AreFields, StandsIf, AreBytes, has_sib, unsigned_of, signed_of, modrm_byte, memory_of, rm_of_modrm, group3, insn_of, meaning, reg_of_modrm}
use Rattle.x64_insn.specs.Chosen.{fits_bytes, is_address, is_rm, is_test, is_extension, is_no_byte, has_byte_order, are_alu_operands, are_mov_operands, mov_length, is_spelled}
use Rattle.x64_insn.proofs.Immediates.{unsigned_small, bytes_fit}
use Rattle.x64_insn.proofs.ModrmSpellings.{means}
use Rattle.x64_insn.proofs.SpelledAddresses.{memory_ok, rm_ok}

-- ---- what the table has: TEST with its operands one way round, extensions from fewer bits, those from 32 with a sign
is_fine : Option Row → Bool
is_fine (Some (row.AluRegRm op operands)) = not (is_test op)
is_fine (Some (row.Extend sign S8)) = true
is_fine (Some (row.Extend sign S16)) = true
is_fine (Some (row.Extend sign S32)) = sign
is_fine (Some (row.Extend sign S64)) = false
is_fine other = true

-- the operation of a number is no TEST
is_fine_alu : Alu → Bool
is_fine_alu a = not (is_test a)

each_fine : (ops : List Alu) → list_all is_fine_alu ops ≡ true → (n : ℕ) → is_fine_alu (slice_index_or ops n alu.Cmp) ≡ true
unfolding is_fine_alu
each_fine [] h n = refl
each_fine (a ∷ ops) h zero = (and_parts _ _ h).0
each_fine (a ∷ ops) h (suc n) = each_fine ops (and_parts _ _ h).1 n

no_test : (n : ℕ) (o : Operands) → is_fine (Some (row.AluRegRm (operation_of n) o)) ≡ true
unfolding is_fine operation_of is_fine_alu
no_test n o = each_fine operations refl n

record Fine (x : Option Row) : Type 0 where
  is : is_fine x ≡ true

if_both : (b : Bool) (x y : Option Row) → is_fine x ≡ true → Fine y → Fine (if b then x else y)
if_both b x y p q = cond_both b x y (λ v. Fine v) (λ e. record { is = p }) (λ e. q)

fine_one : (o : ℕ) → Fine (one_byte_row o)
unfolding is_fine one_byte_row
fine_one o =
    if_both (nat_lt o 64 && nat_lt (o % 8) 2) _ _ refl (
    if_both (nat_lt o 64 && nat_lt (o % 8) 4) _ _ (no_test (o / 8) (operands_of o)) (
    if_both (o == 0x63) _ _ refl (
    if_both (o == 0x69) _ _ refl (
    if_both (o == 0x6B) _ _ refl (
    if_both (is_one_of 16 0x70 o) _ _ refl (
    if_both (is_pair 0x80 o) _ _ refl (
    if_both (o == 0x83) _ _ refl (
    if_both (is_pair 0x84 o) _ _ refl (
    if_both (is_pair 0x88 o) _ _ refl (
    if_both (is_pair 0x8A o) _ _ refl (
    if_both (o == 0x8D) _ _ refl (
    if_both (o == 0x99) _ _ refl (
    if_both (is_one_of 8 0xB8 o) _ _ refl (
    if_both (is_pair 0xC0 o) _ _ refl (
    if_both (o == 0xC3) _ _ refl (
    if_both (is_pair 0xC6 o) _ _ refl (
    if_both (is_pair 0xD0 o) _ _ refl (
    if_both (is_pair 0xD2 o) _ _ refl (
    if_both (o == 0xE8) _ _ refl (
    if_both (o == 0xE9) _ _ refl (
    if_both (o == 0xEB) _ _ refl (
    if_both (is_pair 0xF6 o) _ _ refl (
    if_both (is_pair 0xFE o) _ _ refl (
    record { is = refl }))))))))))))))))))))))))

fine_escaped : (o : ℕ) → Fine (escaped_row o)
unfolding is_fine escaped_row
fine_escaped o =
    if_both (is_one_of 16 0x40 o) _ _ refl (
    if_both (is_one_of 16 0x80 o) _ _ refl (
    if_both (is_one_of 16 0x90 o) _ _ refl (
    if_both (o == 0xAF) _ _ refl (
    if_both (o == 0xB6) _ _ refl (
    if_both (o == 0xB7) _ _ refl (
    if_both (o == 0xBE) _ _ refl (
    if_both (o == 0xBF) _ _ refl (
    if_both (is_one_of 8 0xC8 o) _ _ refl (
    record { is = refl })))))))))

fine_row : (e : Option ℕ) (o : ℕ) → is_fine (row_of e o) ≡ true
fine_row None o = (fine_one o).is
fine_row (Some b) o = (fine_escaped o).is

-- ---- sizes and immediates
sized : (p rex : Option ℕ) → is_no_byte (prefixed_size p rex) ≡ true
sized p rex = cond_both (has_w rex) S64 (if is_some p then S16 else S32) (λ s. is_no_byte s ≡ true) (λ e. refl) (λ e. cond_both (is_some p) S16 S32 (λ s. is_no_byte s ≡ true) (λ k. refl) (λ k. refl))

sized_fit : (size : Size) (bs : List ℕ) → AreBytes (immediate_by size) bs → fits_bytes (immediate_by size) (signed_of bs) ≡ true
sized_fit S8 bs h = bytes_fit 1 1 128 bs refl (omega arith) h
sized_fit S16 bs h = bytes_fit 2 2 (2 ^ 15) bs refl (omega arith) h
sized_fit S32 bs h = bytes_fit 4 4 (2 ^ 31) bs refl (omega arith) h
sized_fit S64 bs h = bytes_fit 4 4 (2 ^ 31) bs refl (omega arith) h

byte_fits : (size : Size) (bs : List ℕ) → AreBytes 1 bs → fits_bytes (immediate_by size) (signed_of bs) ≡ true
byte_fits S8 bs h = bytes_fit 1 1 128 bs refl (omega arith) h
byte_fits S16 bs h = bytes_fit 1 2 128 bs refl (omega arith) h
byte_fits S32 bs h = bytes_fit 1 4 128 bs refl (omega arith) h
byte_fits S64 bs h = bytes_fit 1 4 128 bs refl (omega arith) h

jump_fits : (w : Width) (bs : List ℕ) → AreBytes (width_length w) bs → fits_bytes (width_length w) (signed_of bs) ≡ true
jump_fits Rel8 bs h = bytes_fit 1 1 128 bs refl (omega arith) h
jump_fits Rel32 bs h = bytes_fit 4 4 (2 ^ 31) bs refl (omega arith) h

mov_fits : (size : Size) (rm : Operand) (bs : List ℕ) → AreBytes (immediate_by size) bs → fits_bytes (mov_length size rm) (signed_of bs) ≡ true
mov_fits S64 (operand.Reg r) bs h = bytes_fit 4 8 (2 ^ 31) bs refl (omega arith) h
mov_fits S64 (operand.Imm i) bs h = sized_fit S64 bs h
mov_fits S64 (operand.Mem m) bs h = sized_fit S64 bs h
mov_fits S8 rm bs h = sized_fit S8 bs h
mov_fits S16 rm bs h = sized_fit S16 bs h
mov_fits S32 rm bs h = sized_fit S32 bs h

count_fits : (bs : List ℕ) → AreBytes 1 bs → nat_lt (unsigned_of bs) 256 ≡ true
count_fits bs h = let e : 256 ^ length bs ≡ 256 = ap (λ k. 256 ^ k) h.0 in let s = unsigned_small bs h.1 in lt-ltb (unsigned_of bs) 256 (omega (arith, e, s))

-- ---- operands
alu_from_rm : (a : Alu) (size : Size) (r : Reg) (rm : Operand) → not (is_test a) ≡ true → is_rm rm ≡ true → are_alu_operands a size (operand.Reg r) rm ≡ true
alu_from_rm a size r (operand.Reg q) n h = refl
alu_from_rm a size r (operand.Mem m) n h = and_from _ _ n h
alu_from_rm a size r (operand.Imm i) n h = absurd (false≢true h)

mov_from_rm : (size : Size) (r : Reg) (rm : Operand) → is_rm rm ≡ true → are_mov_operands size (operand.Reg r) rm ≡ true
mov_from_rm size r (operand.Reg q) h = refl
mov_from_rm size r (operand.Mem m) h = h
mov_from_rm size r (operand.Imm i) h = absurd (false≢true h)

-- ---- F6 and F7
takes_of : (w : Row) (rex modrm : Option ℕ) → StandsIf true (takes_modrm w rex) modrm → takes_reg_field w (reg_field (unwrap_or modrm 0)) ≡ true
takes_of w rex None h = absurd h
takes_of w rex (Some m) h = (and_parts _ _ ((and_parts _ _ h).1)).0

three_alone : (n : ℕ) → ((n == 0) || (nat_le 2 n && nat_le n 3)) ≡ true → (n == 0) ≡ false → (n == 2) ≡ false → (n == 3) ≡ false → ⊥
three_alone n h a b c = grind (arith, nat_tests, h, a, b, c)

in_full : (n size : ℕ) (bs : List ℕ) → (n == 0) ≡ true → AreBytes (if n == 0 then size else 0) bs → AreBytes size bs
in_full n size bs e h = subst (λ (b : Bool). AreBytes (if b then size else 0) bs) e h

group3_ok : (operands : Operands) (n : ℕ) (p rex : Option ℕ) (rm : Operand) (bs : List ℕ) → takes_reg_field (row.Group3 operands) n ≡ true → AreBytes (if n == 0 then immediate_by (size_by operands p rex) else 0) bs → is_rm rm ≡ true
    → is_spelled (group3 n (size_by operands p rex) rm (operand.Imm (signed_of bs))) ≡ true
unfolding group3 is_spelled
group3_ok Sized n p rex rm bs t h ok =
    let more = and_from _ _ (sized p rex) ok in
    cond_both (n == 0) _ _ (λ i. is_spelled i ≡ true) (λ e. and_from _ _ ok (sized_fit (prefixed_size p rex) bs (in_full n (immediate_by (prefixed_size p rex)) bs e h)))
    (λ a. cond_both (n == 2) _ _ (λ i. is_spelled i ≡ true) (λ e. ok) (λ b. cond_both (n == 3) _ _ (λ i. is_spelled i ≡ true) (λ e. ok)
    (λ c. cond_both (n == 4) _ _ (λ i. is_spelled i ≡ true) (λ e. more) (λ d. cond_both (n == 5) _ _ (λ i. is_spelled i ≡ true) (λ e. more) (λ e. cond_both (n == 6) _ _ (λ i. is_spelled i ≡ true) (λ f. more) (λ f. more))))))
group3_ok Bytes n p rex rm bs t h ok =
    cond_both (n == 0) _ _ (λ i. is_spelled i ≡ true) (λ e. and_from _ _ ok (sized_fit S8 bs (in_full n 1 bs e h)))
    (λ a. cond_both (n == 2) _ _ (λ i. is_spelled i ≡ true) (λ e. ok) (λ b. cond_both (n == 3) _ _ (λ i. is_spelled i ≡ true) (λ e. ok) (λ c. absurd (three_alone n t a b c))))

-- ---- extensions
from_word : (sign : Bool) (p rex : Option ℕ) → is_none p ≡ true → is_extension sign (prefixed_size p rex) S16 ≡ true
from_word sign None rex h = cond_both (has_w rex) S64 S32 (λ s. is_extension sign s S16 ≡ true) (λ e. refl) (λ e. refl)
from_word sign (Some b) rex h = absurd (false≢true h)

from_byte : (sign : Bool) (p rex : Option ℕ) → is_extension sign (prefixed_size p rex) S8 ≡ true
from_byte sign p rex = cond_both (has_w rex) S64 (if is_some p then S16 else S32) (λ s. is_extension sign s S8 ≡ true) (λ e. refl) (λ e. cond_both (is_some p) S16 S32 (λ s. is_extension sign s S8 ≡ true) (λ k. refl) (λ k. refl))

long_size : (p rex : Option ℕ) → has_w rex ≡ true → prefixed_size p rex ≡ S64
long_size p rex h = rw h refl

byte_order : (p rex : Option ℕ) → is_none p ≡ true → has_byte_order (prefixed_size p rex) ≡ true
byte_order None rex h = cond_both (has_w rex) S64 S32 (λ s. has_byte_order s ≡ true) (λ e. refl) (λ e. refl)
byte_order (Some b) rex h = absurd (false≢true h)

extends : (sign : Bool) (from : Size) (p rex : Option ℕ) → is_fine (Some (row.Extend sign from)) ≡ true → allows (row.Extend sign from) p rex ≡ true → is_extension sign (prefixed_size p rex) from ≡ true
unfolding is_fine
extends sign S8 p rex h k = from_byte sign p rex
extends sign S16 p rex h k = from_word sign p rex k
extends sign S32 p rex h k = subst (λ s. is_extension sign s S32 ≡ true) (sym (long_size p rex k)) h
extends sign S64 p rex h k = absurd (false≢true h)

-- ---- rows
spelled_row : (w : Row) (f : Fields) → is_fine (Some w) ≡ true → allows w f.operand_size f.rex ≡ true → StandsIf (has_modrm w) (takes_modrm w f.rex) f.modrm → is_address (memory_of f) ≡ true → is_rm (rm_of_modrm f) ≡ true
    → AreBytes (immediate_length w f.operand_size f.rex (reg_field (modrm_byte f))) f.immediate → is_spelled (meaning w f) ≡ true
unfolding is_spelled is_fine
spelled_row (row.AluRmReg op o) f fine a m ad ok i = ok
spelled_row (row.AluRegRm op o) f fine a m ad ok i = alu_from_rm op (size_by o f.operand_size f.rex) (reg_of_modrm f) (rm_of_modrm f) fine ok
spelled_row (row.AluRmImm o) f fine a m ad ok i = and_from _ _ ok (sized_fit (size_by o f.operand_size f.rex) f.immediate i)
spelled_row row.AluRmImm8 f fine a m ad ok i = and_from _ _ ok (byte_fits (prefixed_size f.operand_size f.rex) f.immediate i)
spelled_row (row.MovRmReg o) f fine a m ad ok i = ok
spelled_row (row.MovRegRm o) f fine a m ad ok i = mov_from_rm (size_by o f.operand_size f.rex) (reg_of_modrm f) (rm_of_modrm f) ok
spelled_row (row.MovRmImm o) f fine a m ad ok i = and_from _ _ ok (mov_fits (size_by o f.operand_size f.rex) (rm_of_modrm f) f.immediate i)
spelled_row row.MovRegImm64 f fine a m ad ok i = bytes_fit 8 8 (2 ^ 63) f.immediate refl (omega arith) i
spelled_row (row.Extend sign from) f fine a m ad ok i = and_from _ _ (extends sign from f.operand_size f.rex fine a) ok
spelled_row row.Lea f fine a m ad ok i = ad
spelled_row (row.Group3 o) f fine a m ad ok i = group3_ok o (reg_field (modrm_byte f)) f.operand_size f.rex (rm_of_modrm f) f.immediate (takes_of (row.Group3 o) f.rex f.modrm m) i ok
spelled_row (row.IncDec o) f fine a m ad ok i = ok
spelled_row row.ImulRegRm f fine a m ad ok i = and_from _ _ (sized f.operand_size f.rex) ok
spelled_row row.ImulRmImm f fine a m ad ok i = and_from _ _ (sized f.operand_size f.rex) (and_from _ _ ok (sized_fit (prefixed_size f.operand_size f.rex) f.immediate i))
spelled_row row.ImulRmImm8 f fine a m ad ok i = and_from _ _ (sized f.operand_size f.rex) (and_from _ _ ok (byte_fits (prefixed_size f.operand_size f.rex) f.immediate i))
spelled_row (row.ShiftImm o) f fine a m ad ok i = and_from _ _ ok (count_fits f.immediate i)
spelled_row (row.ShiftOne o) f fine a m ad ok i = and_from _ _ ok refl
spelled_row (row.ShiftCl o) f fine a m ad ok i = and_from _ _ ok refl
spelled_row row.Bswap f fine a m ad ok i = byte_order f.operand_size f.rex a
spelled_row row.CdqCqo f fine a m ad ok i = cond_both (has_w f.rex) insn.Cqo insn.Cdq (λ v. is_spelled v ≡ true) (λ e. refl) (λ e. refl)
spelled_row (row.Set c) f fine a m ad ok i = ok
spelled_row (row.Cmov c) f fine a m ad ok i = and_from _ _ (sized f.operand_size f.rex) ok
spelled_row (row.Jcc c w) f fine a m ad ok i = jump_fits w f.immediate i
spelled_row (row.Jmp w) f fine a m ad ok i = jump_fits w f.immediate i
spelled_row row.Call f fine a m ad ok i = bytes_fit 4 4 (2 ^ 31) f.immediate refl (omega arith) i
spelled_row row.Ret f fine a m ad ok i = refl

pub only_spelled : (i : Insn) (f : Fields) → AreFields f → insn_of f ≡ i → is_spelled i ≡ true
only_spelled i f ok is =
    let e : meaning ok.row f ≡ i = sym (means ok.row f ok.in_table) ∙ is in
    let fine : is_fine (Some ok.row) ≡ true = sym (ap is_fine ok.in_table) ∙ fine_row f.escape f.opcode in
    let ad = memory_ok f (has_sib f.modrm) ok.sib ok.displacement in
    sym (ap is_spelled e) ∙ spelled_row ok.row f fine ok.prefixes ok.modrm ad (rm_ok f ad) ok.immediate
