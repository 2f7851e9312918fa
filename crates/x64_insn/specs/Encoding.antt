-- The spellings of instructions in bytes (Intel SDM vol. 2, chapter 2). Each byte is a number below
-- 256.
use Rattle.std.specs.Prelude.{◌≡◌, ◌<◌, ◌≤◌, ℕ, ◌+◌, ◌*◌, ◌/◌, ◌%◌, ◌^◌, ℤ, pos, ◌-ℤ◌, Bool, true, false, ◌&&◌, ◌==◌, nat_lt, nat_le, if◌then◌else◌, Option, Some, None, is_some, unwrap_or, IfSome, IsTrue, List, [], ◌∷◌, ◌++◌, length, take}
use Rattle.std.specs.List.{list_all}
use Rattle.std.specs.Option.{option_to_list}
use Rattle.jz_words.specs.declared.size.Size.{Size}
use Rattle.jz_words.specs.declared.size.Size.TheVariants.{S64}
use Rattle.x64_insn.specs.declared.types.Alu.TheVariants as alu
use Rattle.x64_insn.specs.declared.types.Reg.{Reg}
use Rattle.x64_insn.specs.declared.types.Operand.{Operand}
use Rattle.x64_insn.specs.declared.types.Operand.TheVariants as operand
use Rattle.x64_insn.specs.declared.types.Base.TheVariants as base
use Rattle.x64_insn.specs.declared.types.Mem.{Mem}
use Rattle.x64_insn.specs.declared.types.One.TheVariants as one
use Rattle.x64_insn.specs.declared.types.Wide.TheVariants as wide
use Rattle.x64_insn.specs.declared.types.Shift.{Shift}
use Rattle.x64_insn.specs.declared.types.Shift.TheVariants as shift
use Rattle.x64_insn.specs.declared.types.Count.TheVariants as count
use Rattle.x64_insn.specs.declared.types.Insn.{Insn}
use Rattle.x64_insn.specs.declared.types.Insn.TheVariants as insn
use Rattle.x64_insn.specs.declared.table.Operands.{Operands}
use Rattle.x64_insn.specs.declared.table.Operands.TheVariants.{Sized}
use Rattle.x64_insn.specs.declared.table.Row.{Row}
use Rattle.x64_insn.specs.declared.table.Row.TheVariants as row
use Rattle.x64_insn.specs.Table.{operation_of, reg_of, row_of, has_w, r_of, x_of, b_of, size_by, allows, mod_of, reg_field, rm_field, has_modrm, takes_modrm, immediate_length}

-- The fields of a spelling, in the order of their bytes (2.1, figure 2-1; 2.2.1, figure 2-3).
pub record Fields : Type 0 where
  -- the prefix 66 (2.1.1)
  pub operand_size : Option ℕ
  -- the prefix REX, 0100WRXB (2.2.1.2)
  pub rex : Option ℕ
  -- the byte 0F before an opcode (2.1.2)
  pub escape : Option ℕ
  pub opcode : ℕ
  pub modrm : Option ℕ
  -- two bits of scale, three of index, three of base (2.1.3)
  pub sib : Option ℕ
  pub displacement : List ℕ
  pub immediate : List ℕ

-- the bytes of the fields
unfoldable pub spelling_of : Fields → List ℕ
spelling_of f =
    option_to_list f.operand_size ++ (option_to_list f.rex ++ (option_to_list f.escape
    ++ ((f.opcode ∷ []) ++ (option_to_list f.modrm ++ (option_to_list f.sib
    ++ (f.displacement ++ f.immediate))))))

-- ---- which fields may stand there
-- a number that a byte can hold
abbrev pub is_byte : ℕ → Bool
is_byte b = nat_lt b 256

-- REX, 40 to 4F; behind 66 it has no W
abbrev pub is_rex : Option ℕ → ℕ → Bool
is_rex operand_size b = nat_le 0x40 b && nat_lt b (if is_some operand_size then 0x48 else 0x50)

-- a byte that passes a test where one has to stand, and none elsewhere
abbrev pub StandsIf : Bool → (ℕ → Bool) → Option ℕ → Type 0
StandsIf false test None = Unit {0}
StandsIf false test (Some b) = ⊥
StandsIf true test None = ⊥
StandsIf true test (Some b) = IsTrue (test b)

-- so many bytes
abbrev pub AreBytes : ℕ → List ℕ → Type 0
AreBytes n bs = (length bs ≡ n) × IsTrue (list_all is_byte bs)

-- a SIB stands behind a ModRM of a memory operand whose rm field is 4 (2.1.5, table 2-2)
abbrev pub has_sib : Option ℕ → Bool
has_sib None = false
has_sib (Some modrm) = nat_lt (mod_of modrm) 3 && (rm_field modrm == 4)

-- the field that names a memory operand's base
abbrev pub base_field : ℕ → Option ℕ → ℕ
base_field modrm None = rm_field modrm
base_field modrm (Some sib) = sib % 8

-- how many bytes a displacement has (2.1.5, tables 2-2 and 2-3)
unfoldable pub displacement_length : Option ℕ → Option ℕ → ℕ
displacement_length None sib = 0
displacement_length (Some modrm) sib =
    if mod_of modrm == 0 then (if base_field modrm sib == 5 then 4 else 0)
    else if mod_of modrm == 1 then 1
    else if mod_of modrm == 2 then 4
    else 0

-- The fields are those of a row of the table, and each is one that may stand there.
pub record AreFields (f : Fields) : Type 0 where
  pub row : Row
  pub in_table : row_of f.escape f.opcode ≡ Some row
  pub operand_size : IfSome f.operand_size (λ b. b ≡ 0x66)
  pub rex : IfSome f.rex (λ b. IsTrue (is_rex f.operand_size b))
  pub escape : IfSome f.escape (λ b. b ≡ 0x0F)
  pub prefixes : IsTrue (allows row f.operand_size f.rex)
  pub modrm : StandsIf (has_modrm row) (takes_modrm row f.rex) f.modrm
  pub sib : StandsIf (has_sib f.modrm) is_byte f.sib
  pub displacement : AreBytes (displacement_length f.modrm f.sib) f.displacement
  pub immediate :
      AreBytes (immediate_length row f.operand_size f.rex (reg_field (unwrap_or f.modrm 0)))
      f.immediate

-- ---- what fields mean
-- a byte of ModRM, 0 where none stands
abbrev pub modrm_byte : Fields → ℕ
modrm_byte f = unwrap_or f.modrm 0

-- the register of ModRM's reg field, whose fourth bit is REX.R (2.2.1.2, figure 2-5)
abbrev pub reg_of_modrm : Fields → Reg
reg_of_modrm f = reg_of (8 * r_of f.rex + reg_field (modrm_byte f))

-- the register in the lowest three bits of an opcode, whose fourth bit is REX.B (2.2.1.2, figure
-- 2-7)
abbrev pub reg_of_opcode : Fields → Reg
reg_of_opcode f = reg_of (8 * b_of f.rex + f.opcode % 8)

-- the number of bytes, the lowest first
abbrev pub unsigned_of : List ℕ → ℕ
unsigned_of [] = 0
unsigned_of (b ∷ bs) = b + 256 * unsigned_of bs

-- a number below another as a signed one: the upper half stands for the negative numbers
unfoldable pub signed_from : ℕ → ℕ → ℤ
signed_from n all = if nat_lt (2 * n) all then pos n else pos n -ℤ pos all

-- bytes as a signed number
abbrev pub signed_of : List ℕ → ℤ
signed_of bs = signed_from (unsigned_of bs) (256 ^ length bs)

-- the immediate, which stands for the word of the operands' size with the same signed number
-- (2.2.1.3)
abbrev pub immediate_of : Fields → Operand
immediate_of f = operand.Imm (signed_of f.immediate)

-- the size of a row's operands
abbrev pub size_in : Operands → Fields → Size
size_in operands f = size_by operands f.operand_size f.rex

-- ---- addresses (2.1.5, tables 2-2 and 2-3; 2.2.1.2, figure 2-6)
-- a byte of SIB, 0 where none stands
abbrev pub sib_byte : Fields → ℕ
sib_byte f = unwrap_or f.sib 0

-- the number of the index, whose fourth bit is REX.X
abbrev pub index_number : Fields → ℕ
index_number f = 8 * x_of f.rex + sib_byte f / 8 % 8

-- the index and its scale; the number 4 stands for none
abbrev pub index_of : Fields → Option (Reg × ℕ)
index_of f =
    if index_number f == 4 then None else Some (reg_of (index_number f), 2 ^ (sib_byte f / 64))

-- the displacement, which is 0 where it has no bytes
abbrev pub displacement_of : Fields → ℤ
displacement_of f = signed_of f.displacement

-- an address with a SIB: mode 0 with the base field 5 has no base
abbrev pub sib_memory : Fields → Mem
sib_memory f = record {
  base =
      if (mod_of (modrm_byte f) == 0) && (sib_byte f % 8 == 5) then base.Absent
      else base.Reg (reg_of (8 * b_of f.rex + sib_byte f % 8));
  index = index_of f;
  disp = displacement_of f;
}

-- an address without one: mode 0 with the rm field 5 counts from the next instruction (2.2.1.6)
abbrev pub plain_memory : Fields → Mem
plain_memory f = record {
  base =
      if (mod_of (modrm_byte f) == 0) && (rm_field (modrm_byte f) == 5) then base.Rip
      else base.Reg (reg_of (8 * b_of f.rex + rm_field (modrm_byte f)));
  index = None;
  disp = displacement_of f;
}

unfoldable pub memory_of : Fields → Mem
memory_of f = if rm_field (modrm_byte f) == 4 then sib_memory f else plain_memory f

-- the operand of ModRM's rm field: a register, whose fourth bit is REX.B (2.2.1.2, figure 2-5), or
-- an address
unfoldable pub rm_of_modrm : Fields → Operand
rm_of_modrm f =
    if mod_of (modrm_byte f) == 3
    then operand.Reg (reg_of (8 * b_of f.rex + rm_field (modrm_byte f)))
    else operand.Mem (memory_of f)

-- ---- instructions
-- the kind of shift that ModRM's reg field names
unfoldable pub shift_of : ℕ → Shift
shift_of n =
    if n == 0 then shift.Rol
    else if n == 1 then shift.Ror
    else if n == 4 then shift.Shl
    else if n == 5 then shift.Shr
    else shift.Sar

-- the instruction of F6 and F7 that ModRM's reg field names
unfoldable pub group3 : ℕ → Size → Operand → Operand → Insn
group3 n size rm imm =
    if n == 0 then insn.Alu alu.Test size rm imm
    else if n == 2 then insn.One one.Not size rm
    else if n == 3 then insn.One one.Neg size rm
    else if n == 4 then insn.Wide wide.Mul size rm
    else if n == 5 then insn.Wide wide.Imul size rm
    else if n == 6 then insn.Wide wide.Div size rm
    else insn.Wide wide.Idiv size rm

-- the instruction of a row: the destination is the operand that the row names first
abbrev pub meaning : Row → Fields → Insn
meaning (row.AluRmReg op operands) f =
    insn.Alu op (size_in operands f) (rm_of_modrm f) (operand.Reg (reg_of_modrm f))
meaning (row.AluRegRm op operands) f =
    insn.Alu op (size_in operands f) (operand.Reg (reg_of_modrm f)) (rm_of_modrm f)
meaning (row.AluRmImm operands) f =
    insn.Alu (operation_of (reg_field (modrm_byte f))) (size_in operands f) (rm_of_modrm f)
    (immediate_of f)
meaning row.AluRmImm8 f =
    insn.Alu (operation_of (reg_field (modrm_byte f))) (size_in Sized f) (rm_of_modrm f)
    (immediate_of f)
meaning (row.MovRmReg operands) f =
    insn.Mov (size_in operands f) (rm_of_modrm f) (operand.Reg (reg_of_modrm f))
meaning (row.MovRegRm operands) f =
    insn.Mov (size_in operands f) (operand.Reg (reg_of_modrm f)) (rm_of_modrm f)
meaning (row.MovRmImm operands) f = insn.Mov (size_in operands f) (rm_of_modrm f) (immediate_of f)
meaning row.MovRegImm64 f = insn.Mov S64 (operand.Reg (reg_of_opcode f)) (immediate_of f)
meaning (row.Extend sign from) f =
    insn.Extend sign (size_in Sized f) from (reg_of_modrm f) (rm_of_modrm f)
meaning row.Lea f = insn.Lea (reg_of_modrm f) (memory_of f)
meaning (row.IncDec operands) f =
    insn.One (if reg_field (modrm_byte f) == 0 then one.Inc else one.Dec) (size_in operands f)
    (rm_of_modrm f)
meaning (row.Group3 operands) f =
    group3 (reg_field (modrm_byte f)) (size_in operands f) (rm_of_modrm f) (immediate_of f)
meaning row.ImulRegRm f = insn.Imul (size_in Sized f) (reg_of_modrm f) (rm_of_modrm f)
meaning row.ImulRmImm f =
    insn.ImulBy (size_in Sized f) (reg_of_modrm f) (rm_of_modrm f) (signed_of f.immediate)
meaning row.ImulRmImm8 f =
    insn.ImulBy (size_in Sized f) (reg_of_modrm f) (rm_of_modrm f) (signed_of f.immediate)
meaning (row.ShiftImm operands) f =
    insn.Shift (shift_of (reg_field (modrm_byte f))) (size_in operands f) (rm_of_modrm f)
    (count.Imm (unsigned_of f.immediate))
meaning (row.ShiftOne operands) f =
    insn.Shift (shift_of (reg_field (modrm_byte f))) (size_in operands f) (rm_of_modrm f)
    (count.Imm 1)
meaning (row.ShiftCl operands) f =
    insn.Shift (shift_of (reg_field (modrm_byte f))) (size_in operands f) (rm_of_modrm f) count.Cl
meaning row.Bswap f = insn.Bswap (size_in Sized f) (reg_of_opcode f)
meaning row.CdqCqo f = if has_w f.rex then insn.Cqo else insn.Cdq
meaning (row.Set condition) f = insn.Set condition (rm_of_modrm f)
meaning (row.Cmov condition) f =
    insn.Cmov condition (size_in Sized f) (reg_of_modrm f) (rm_of_modrm f)
meaning (row.Jcc condition width) f = insn.Jcc condition width (signed_of f.immediate)
meaning (row.Jmp width) f = insn.Jmp width (signed_of f.immediate)
meaning row.Call f = insn.Call (signed_of f.immediate)
meaning row.Ret f = insn.Ret

-- the same of an opcode's row, where it has one
abbrev pub meaning_of : Option Row → Fields → Insn
meaning_of None f = insn.Ret
meaning_of (Some row) f = meaning row f

-- the instruction that fields of a row spell
unfoldable pub insn_of : Fields → Insn
insn_of f = meaning_of (row_of f.escape f.opcode) f

-- ---- the relation
-- these bytes are a spelling of this instruction
abbrev pub Spells : List ℕ → Insn → Type 0
Spells bs i = (f : Fields) × AreFields f × (spelling_of f ≡ bs) × (insn_of f ≡ i)

-- the first len bytes are a spelling of this instruction
abbrev pub Decodes : List ℕ → Insn → ℕ → Type 0
Decodes bs i len = (len ≤ length bs) × Spells (take len bs) i

-- a spelling begins with these bytes and has more
abbrev pub IsBeginning : List ℕ → Type 0
IsBeginning bs = (more : List ℕ) × (i : Insn) × (0 < length more) × Spells (bs ++ more) i

-- some bytes are a spelling of this instruction
abbrev pub HasSpelling : Insn → Type 0
HasSpelling i = (bs : List ℕ) × Spells bs i
