-- The spelling that is chosen among those of an instruction: with the shortest immediate and
-- displacement, and nothing set that has no use.
use Rattle.std.specs.Prelude.{ℕ, zero, suc, ◌+◌, ◌*◌, ◌/◌, ◌%◌, ◌^◌, ℤ, pos, int_lt, Bool, true, false, not, ◌&&◌, ◌||◌, ◌==◌, nat_lt, nat_le, if◌then◌else◌, Option, Some, None, is_none, List, [], ◌∷◌}
use Rattle.jz_words.specs.declared.size.Size.{Size}
use Rattle.jz_words.specs.declared.size.Size.TheVariants.{S8, S16, S32, S64}
use Rattle.jz_words.specs.Words.{modulo}
pub use Rattle.jz_words.specs.Readings.{fits_bytes}
use Rattle.x64_insn.specs.declared.types.Alu.{Alu}
use Rattle.x64_insn.specs.declared.types.Alu.TheVariants as alu
use Rattle.x64_insn.specs.declared.types.One.{One}
use Rattle.x64_insn.specs.declared.types.One.TheVariants as one
use Rattle.x64_insn.specs.declared.types.Wide.{Wide}
use Rattle.x64_insn.specs.declared.types.Wide.TheVariants as wide
use Rattle.x64_insn.specs.declared.types.Shift.{Shift}
use Rattle.x64_insn.specs.declared.types.Shift.TheVariants as shift
use Rattle.x64_insn.specs.declared.types.Count.{Count}
use Rattle.x64_insn.specs.declared.types.Count.TheVariants as count
use Rattle.x64_insn.specs.declared.types.Cond.{Cond}
use Rattle.x64_insn.specs.declared.types.Cond.TheVariants as cond
use Rattle.x64_insn.specs.declared.types.Width.{Width}
use Rattle.x64_insn.specs.declared.types.Width.TheVariants.{Rel8, Rel32}
use Rattle.x64_insn.specs.declared.types.Base.{Base}
use Rattle.x64_insn.specs.declared.types.Base.TheVariants as base
use Rattle.x64_insn.specs.declared.types.Mem.{Mem}
use Rattle.x64_insn.specs.declared.types.Reg.{Reg}
use Rattle.x64_insn.specs.declared.types.Reg.TheVariants as reg
use Rattle.x64_insn.specs.declared.types.Operand.{Operand}
use Rattle.x64_insn.specs.declared.types.Operand.TheVariants as operand
use Rattle.x64_insn.specs.declared.types.Insn.{Insn}
use Rattle.x64_insn.specs.declared.types.Insn.TheVariants as insn
use Rattle.x64_insn.specs.Table.{number_of, immediate_by, width_length}
use Rattle.x64_insn.specs.Encoding.{Fields, spelling_of}

-- ---- numbers in opcodes and reg fields
-- an operation that is no TEST
abbrev pub alu_number : Alu → ℕ
alu_number alu.Add = 0
alu_number alu.Or = 1
alu_number alu.Adc = 2
alu_number alu.Sbb = 3
alu_number alu.And = 4
alu_number alu.Sub = 5
alu_number alu.Xor = 6
alu_number other = 7

abbrev pub condition_number : Cond → ℕ
condition_number cond.O = 0
condition_number cond.No = 1
condition_number cond.B = 2
condition_number cond.Ae = 3
condition_number cond.E = 4
condition_number cond.Ne = 5
condition_number cond.Be = 6
condition_number cond.A = 7
condition_number cond.S = 8
condition_number cond.Ns = 9
condition_number cond.P = 10
condition_number cond.Np = 11
condition_number cond.L = 12
condition_number cond.Ge = 13
condition_number cond.Le = 14
condition_number cond.G = 15

abbrev pub shift_number : Shift → ℕ
shift_number shift.Rol = 0
shift_number shift.Ror = 1
shift_number shift.Shl = 4
shift_number shift.Shr = 5
shift_number shift.Sar = 7

-- of F6 and F7
abbrev pub wide_number : Wide → ℕ
wide_number wide.Mul = 4
wide_number wide.Imul = 5
wide_number wide.Div = 6
wide_number wide.Idiv = 7

-- of F6 and F7, or of FE and FF
abbrev pub one_number : One → ℕ
one_number one.Not = 2
one_number one.Neg = 3
one_number one.Inc = 0
one_number one.Dec = 1

-- the first opcode of the pair that an operation on one operand has
abbrev pub one_opcode : One → ℕ
one_opcode one.Not = 0xF6
one_opcode one.Neg = 0xF6
one_opcode one.Inc = 0xFE
one_opcode one.Dec = 0xFE

-- of a pair of opcodes the first has operands of one byte
abbrev pub opcode_for : Size → ℕ → ℕ
opcode_for S8 o = o
opcode_for other o = o + 1

-- ---- immediates
-- so many bytes of a number, the lowest first
abbrev pub bytes_of_number : ℕ → ℕ → List ℕ
bytes_of_number zero n = []
bytes_of_number (suc k) n = n % 256 ∷ bytes_of_number k (n / 256)

-- so many bytes of a signed number
abbrev pub signed_bytes : ℕ → ℤ → List ℕ
signed_bytes k i = bytes_of_number k (modulo i (256 ^ k))

-- ---- prefixes
-- 66 gives 16 bits, and REX.W gives 64
abbrev pub operand_size_for : Size → Option ℕ
operand_size_for S16 = Some 0x66
operand_size_for other = None

abbrev pub w_for : Size → ℕ
w_for S64 = 1
w_for other = 0

-- REX with the bits W, R, X and B, where one is set or a register needs it
abbrev pub rex_with : ℕ → ℕ → ℕ → ℕ → Bool → Option ℕ
rex_with w r x b needed =
    if (8 * w + 4 * r + 2 * x + b == 0) && not needed then None
    else Some (0x40 + (8 * w + 4 * r + 2 * x + b))

-- SPL, BPL, SIL and DIL need a REX
abbrev pub is_low_byte_of_pointer : Reg → Bool
is_low_byte_of_pointer r = nat_le 4 (number_of r) && nat_lt (number_of r) 8

abbrev pub needs_rex : Size → Operand → Bool
needs_rex S8 (operand.Reg r) = is_low_byte_of_pointer r
needs_rex size o = false

-- ---- the operand of an rm field
-- mode and rm field of ModRM, the bits X and B of REX, SIB and displacement
pub record RmParts : Type 0 where
  pub mode : ℕ
  pub field : ℕ
  pub x : ℕ
  pub b : ℕ
  pub sib : Option ℕ
  pub displacement : List ℕ

abbrev pub register_parts : Reg → RmParts
register_parts r = record {
  mode = 3;
  field = number_of r % 8;
  x = 0;
  b = number_of r / 8;
  sib = None;
  displacement = [];
}

-- the mode of a displacement behind a base register: none where it is 0, but for the fields of RBP
-- and R13, which have one; else the shortest
abbrev pub is_zero : ℤ → Bool
is_zero i = not (int_lt i (pos 0)) && int_lt i (pos 1)

abbrev pub mode_for : ℕ → ℤ → ℕ
mode_for field disp =
    if is_zero disp && not (field == 5) then 0 else if fits_bytes 1 disp then 1 else 2

abbrev pub displacement_for : ℕ → ℤ → List ℕ
displacement_for mode disp =
    if mode == 0 then [] else if mode == 1 then signed_bytes 1 disp else signed_bytes 4 disp

-- the number of an index, 4 for none, and the field of its scale
abbrev pub index_code : Option (Reg × ℕ) → ℕ
index_code None = 4
index_code (Some i) = number_of i.0

abbrev pub scale_code : Option (Reg × ℕ) → ℕ
scale_code None = 0
scale_code (Some i) = if i.1 == 1 then 0 else if i.1 == 2 then 1 else if i.1 == 4 then 2 else 3

-- a SIB with this base field
abbrev pub sib_with : ℕ → Option (Reg × ℕ) → ℕ
sib_with low index = 64 * scale_code index + 8 * (index_code index % 8) + low

abbrev pub based_parts : Reg → Option (Reg × ℕ) → ℤ → RmParts
based_parts r index disp =
    let low = number_of r % 8 in
    let mode = mode_for low disp in
    let displacement = displacement_for mode disp in
    let b = number_of r / 8 in
    let x = index_code index / 8 in
    let sib = Some (sib_with low index) in
    if is_none index && not (low == 4)
    then record { mode = mode; field = low; x = 0; b = b; sib = None; displacement = displacement }
    else record { mode = mode; field = 4; x = x; b = b; sib = sib; displacement = displacement }

-- without a base, or with RIP, the displacement has four bytes
abbrev pub address_parts : Base → Option (Reg × ℕ) → ℤ → RmParts
address_parts (base.Reg r) index disp = based_parts r index disp
address_parts base.Absent index disp =
    record {
      mode = 0;
      field = 4;
      x = index_code index / 8;
      b = 0;
      sib = Some (sib_with 5 index);
      displacement = signed_bytes 4 disp;
    }
address_parts base.Rip index disp = record {
  mode = 0;
  field = 5;
  x = 0;
  b = 0;
  sib = None;
  displacement = signed_bytes 4 disp;
}

unfoldable pub rm_parts : Operand → RmParts
rm_parts (operand.Reg r) = register_parts r
rm_parts (operand.Mem a) = address_parts a.base a.index a.disp
rm_parts (operand.Imm i) = register_parts reg.Rax

-- ---- fields
-- an opcode with a ModRM, whose reg field has this number
unfoldable pub modrm_fields : Size → Bool → Option ℕ → ℕ → ℕ → Operand → List ℕ → Fields
modrm_fields size needed escape opcode number rm immediate =
    let parts = rm_parts rm in
    record {
      operand_size = operand_size_for size;
      rex = rex_with (w_for size) (number / 8) parts.x parts.b needed;
      escape = escape;
      opcode = opcode;
      modrm = Some (64 * parts.mode + 8 * (number % 8) + parts.field);
      sib = parts.sib;
      displacement = parts.displacement;
      immediate = immediate;
    }

-- an operation with a register in the reg field, and one with a number there
abbrev pub with_register : Size → ℕ → Reg → Operand → Fields
with_register size opcode r rm =
    modrm_fields size (needs_rex size (operand.Reg r) || needs_rex size rm) None opcode
    (number_of r) rm []

abbrev pub with_number : Size → ℕ → ℕ → Operand → List ℕ → Fields
with_number size opcode n rm immediate =
    modrm_fields size (needs_rex size rm) None opcode n rm immediate

-- an opcode without ModRM: alone, and with a register in its lowest three bits
abbrev pub opcode_alone : Option ℕ → ℕ → List ℕ → Fields
opcode_alone escape opcode immediate =
    record {
      operand_size = None;
      rex = None;
      escape = escape;
      opcode = opcode;
      modrm = None;
      sib = None;
      displacement = [];
      immediate = immediate;
    }

abbrev pub with_opcode_register : Size → Option ℕ → ℕ → Reg → List ℕ → Fields
with_opcode_register size escape opcode r immediate = record {
  operand_size = None;
  rex = rex_with (w_for size) 0 0 (number_of r / 8) false;
  escape = escape;
  opcode = opcode + number_of r % 8;
  modrm = None;
  sib = None;
  displacement = [];
  immediate = immediate;
}

-- ---- instructions
-- an operation with an immediate: of one byte where it holds the number
abbrev pub alu_immediate : Alu → Size → Operand → ℤ → Fields
alu_immediate op S8 rm i = with_number S8 0x80 (alu_number op) rm (signed_bytes 1 i)
alu_immediate op size rm i =
    if fits_bytes 1 i then with_number size 0x83 (alu_number op) rm (signed_bytes 1 i)
    else with_number size 0x81 (alu_number op) rm (signed_bytes (immediate_by size) i)

-- TEST has its immediate in full, and no address behind a register
abbrev pub alu_fields : Alu → Size → Operand → Operand → Option Fields
alu_fields alu.Test size rm (operand.Reg r) = Some (with_register size (opcode_for size 0x84) r rm)
alu_fields alu.Test size rm (operand.Imm i) =
    Some (with_number size (opcode_for size 0xF6) 0 rm (signed_bytes (immediate_by size) i))
alu_fields alu.Test size to (operand.Mem a) = None
alu_fields op size rm (operand.Reg r) =
    Some (with_register size (opcode_for size (8 * alu_number op)) r rm)
alu_fields op size rm (operand.Imm i) = Some (alu_immediate op size rm i)
alu_fields op size (operand.Reg r) (operand.Mem a) =
    Some (with_register size (opcode_for size (8 * alu_number op + 2)) r (operand.Mem a))
alu_fields op size to from = None

-- MOV of an immediate: of 64 bits alone where fewer do not hold the number
abbrev pub mov_immediate : Size → Operand → ℤ → Fields
mov_immediate size (operand.Reg r) i =
    if fits_bytes (immediate_by size) i
    then with_number size (opcode_for size 0xC6) 0 (operand.Reg r)
    (signed_bytes (immediate_by size) i)
    else with_opcode_register S64 None 0xB8 r (signed_bytes 8 i)
mov_immediate size rm i =
    with_number size (opcode_for size 0xC6) 0 rm (signed_bytes (immediate_by size) i)

abbrev pub mov_fields : Size → Operand → Operand → Option Fields
mov_fields size rm (operand.Reg r) = Some (with_register size (opcode_for size 0x88) r rm)
mov_fields size rm (operand.Imm i) = Some (mov_immediate size rm i)
mov_fields size (operand.Reg r) (operand.Mem a) =
    Some (with_register size (opcode_for size 0x8A) r (operand.Mem a))
mov_fields size to from = None

-- MOVZX and MOVSX stand behind 0F, MOVSXD does not
abbrev pub extend_fields : Bool → Size → Size → Reg → Operand → Fields
extend_fields sign to S32 r rm = modrm_fields to false None 0x63 (number_of r) rm []
extend_fields false to from r rm =
    modrm_fields to (needs_rex from rm) (Some 0x0F) (opcode_for from 0xB6) (number_of r) rm []
extend_fields true to from r rm =
    modrm_fields to (needs_rex from rm) (Some 0x0F) (opcode_for from 0xBE) (number_of r) rm []

abbrev pub imul_by_fields : Size → Reg → Operand → ℤ → Fields
imul_by_fields size r rm i =
    if fits_bytes 1 i then modrm_fields size false None 0x6B (number_of r) rm (signed_bytes 1 i)
    else modrm_fields size false None 0x69 (number_of r) rm (signed_bytes (immediate_by size) i)

-- a count of 1 stands in the opcode
abbrev pub shift_fields : Shift → Size → Operand → Count → Fields
shift_fields kind size rm count.Cl =
    with_number size (opcode_for size 0xD2) (shift_number kind) rm []
shift_fields kind size rm (count.Imm n) =
    if n == 1 then with_number size (opcode_for size 0xD0) (shift_number kind) rm []
    else with_number size (opcode_for size 0xC0) (shift_number kind) rm (n ∷ [])

abbrev pub jcc_fields : Cond → Width → ℤ → Fields
jcc_fields c Rel8 disp = opcode_alone None (0x70 + condition_number c) (signed_bytes 1 disp)
jcc_fields c Rel32 disp = opcode_alone (Some 0x0F) (0x80 + condition_number c) (signed_bytes 4 disp)

abbrev pub jmp_fields : Width → ℤ → Fields
jmp_fields Rel8 disp = opcode_alone None 0xEB (signed_bytes 1 disp)
jmp_fields Rel32 disp = opcode_alone None 0xE9 (signed_bytes 4 disp)

-- the fields that are chosen: between registers the destination stands in the rm field
unfoldable pub chosen_fields : Insn → Option Fields
chosen_fields (insn.Alu op size to from) = alu_fields op size to from
chosen_fields (insn.Mov size to from) = mov_fields size to from
chosen_fields (insn.Extend sign to from r rm) = Some (extend_fields sign to from r rm)
chosen_fields (insn.Lea r a) =
    Some (modrm_fields S64 false None 0x8D (number_of r) (operand.Mem a) [])
chosen_fields (insn.One op size rm) =
    Some (with_number size (opcode_for size (one_opcode op)) (one_number op) rm [])
chosen_fields (insn.Wide op size rm) =
    Some (with_number size (opcode_for size 0xF6) (wide_number op) rm [])
chosen_fields (insn.Imul size r rm) =
    Some (modrm_fields size false (Some 0x0F) 0xAF (number_of r) rm [])
chosen_fields (insn.ImulBy size r rm i) = Some (imul_by_fields size r rm i)
chosen_fields (insn.Shift kind size rm n) = Some (shift_fields kind size rm n)
chosen_fields (insn.Bswap size r) = Some (with_opcode_register size (Some 0x0F) 0xC8 r [])
chosen_fields insn.Cdq = Some (opcode_alone None 0x99 [])
chosen_fields insn.Cqo = Some (with_opcode_register S64 None 0x99 reg.Rax [])
chosen_fields (insn.Set c rm) =
    Some (modrm_fields S8 (needs_rex S8 rm) (Some 0x0F) (0x90 + condition_number c) 0 rm [])
chosen_fields (insn.Cmov c size r rm) =
    Some (modrm_fields size false (Some 0x0F) (0x40 + condition_number c) (number_of r) rm [])
chosen_fields (insn.Jcc c width disp) = Some (jcc_fields c width disp)
chosen_fields (insn.Jmp width disp) = Some (jmp_fields width disp)
chosen_fields (insn.Call disp) = Some (opcode_alone None 0xE8 (signed_bytes 4 disp))
chosen_fields insn.Ret = Some (opcode_alone None 0xC3 [])

-- the bytes of fields, where there are any
abbrev pub bytes_of_fields : Option Fields → List ℕ
bytes_of_fields None = []
bytes_of_fields (Some f) = spelling_of f

-- the bytes that are chosen for an instruction that has a spelling
unfoldable pub chosen_bytes : Insn → List ℕ
chosen_bytes i = bytes_of_fields (chosen_fields i)

-- ---- which instructions have a spelling
-- an index that has a number, with a scale that has a field: RSP's number stands for none
abbrev pub is_index : Option (Reg × ℕ) → Bool
is_index None = true
is_index (Some i) =
    not (number_of i.0 == 4) && ((i.1 == 1) || ((i.1 == 2) || ((i.1 == 4) || (i.1 == 8))))

-- an index beside a base: RIP has none
abbrev pub is_index_of : Base → Option (Reg × ℕ) → Bool
is_index_of base.Rip index = is_none index
is_index_of other index = is_index index

-- an address that a spelling can name
abbrev pub is_address : Mem → Bool
is_address a = is_index_of a.base a.index && fits_bytes 4 a.disp

-- a register or an address
abbrev pub is_rm : Operand → Bool
is_rm (operand.Reg r) = true
is_rm (operand.Imm i) = false
is_rm (operand.Mem a) = is_address a

abbrev pub is_register : Operand → Bool
is_register (operand.Reg r) = true
is_register other = false

abbrev pub is_test : Alu → Bool
is_test alu.Test = true
is_test other = false

-- operations on a register or an address with a register or an immediate; and, but for TEST, on a
-- register with an address
abbrev pub are_alu_operands : Alu → Size → Operand → Operand → Bool
are_alu_operands op size to (operand.Reg r) = is_rm to
are_alu_operands op size to (operand.Imm i) = is_rm to && fits_bytes (immediate_by size) i
are_alu_operands op size to (operand.Mem a) = not (is_test op) && (is_register to && is_address a)

-- MOV to a register of 64 bits has any immediate of 64
abbrev pub mov_length : Size → Operand → ℕ
mov_length S64 (operand.Reg r) = 8
mov_length size o = immediate_by size

abbrev pub are_mov_operands : Size → Operand → Operand → Bool
are_mov_operands size to (operand.Reg r) = is_rm to
are_mov_operands size to (operand.Imm i) = is_rm to && fits_bytes (mov_length size to) i
are_mov_operands size to (operand.Mem a) = is_register to && is_address a

-- a source that is smaller than the destination; 32 bits are extended with their sign alone
abbrev pub is_extension : Bool → Size → Size → Bool
is_extension sign S16 S8 = true
is_extension sign S32 S8 = true
is_extension sign S64 S8 = true
is_extension sign S32 S16 = true
is_extension sign S64 S16 = true
is_extension sign S64 S32 = sign
is_extension sign to from = false

-- sizes of more than one byte, and of more than two
abbrev pub is_no_byte : Size → Bool
is_no_byte S8 = false
is_no_byte other = true

abbrev pub has_byte_order : Size → Bool
has_byte_order S32 = true
has_byte_order S64 = true
has_byte_order other = false

abbrev pub is_count : Count → Bool
is_count count.Cl = true
is_count (count.Imm n) = nat_lt n 256

unfoldable pub is_spelled : Insn → Bool
is_spelled (insn.Alu op size to from) = are_alu_operands op size to from
is_spelled (insn.Mov size to from) = are_mov_operands size to from
is_spelled (insn.Extend sign to from r rm) = is_extension sign to from && is_rm rm
is_spelled (insn.Lea r a) = is_address a
is_spelled (insn.One op size rm) = is_rm rm
is_spelled (insn.Wide op size rm) = is_no_byte size && is_rm rm
is_spelled (insn.Imul size r rm) = is_no_byte size && is_rm rm
is_spelled (insn.ImulBy size r rm i) =
    is_no_byte size && (is_rm rm && fits_bytes (immediate_by size) i)
is_spelled (insn.Shift kind size rm n) = is_rm rm && is_count n
is_spelled (insn.Bswap size r) = has_byte_order size
is_spelled insn.Cdq = true
is_spelled insn.Cqo = true
is_spelled (insn.Set c rm) = is_rm rm
is_spelled (insn.Cmov c size r rm) = is_no_byte size && is_rm rm
is_spelled (insn.Jcc c width disp) = fits_bytes (width_length width) disp
is_spelled (insn.Jmp width disp) = fits_bytes (width_length width) disp
is_spelled (insn.Call disp) = fits_bytes 4 disp
is_spelled insn.Ret = true
