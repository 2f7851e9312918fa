-- What stands in a frame beside the places of variables: the slots of the preserved registers that
-- the code names; and its size.
use Rattle.std.specs.Prelude.{ℕ, ◌+◌, ◌*◌, ◌-◌, ◌/◌, Bool, false, ◌||◌, ◌==◌, if◌then◌else◌, Option, Some, None, ℤ, pos, ◌-ℤ◌, List, [], ◌∷◌, length}
use Rattle.std.specs.List.{list_any, filter}
use Rattle.x64_insn.specs.declared.types.Reg.{Reg}
use Rattle.x64_insn.specs.declared.types.Reg.TheVariants as reg
use Rattle.x64_insn.specs.declared.types.Base.{Base}
use Rattle.x64_insn.specs.declared.types.Base.TheVariants as base
use Rattle.x64_insn.specs.declared.types.Mem.{Mem}
use Rattle.x64_insn.specs.declared.types.Operand.{Operand}
use Rattle.x64_insn.specs.declared.types.Operand.TheVariants as operand
use Rattle.x64_insn.specs.declared.types.Insn.{Insn}
use Rattle.x64_insn.specs.declared.types.Insn.TheVariants as insn
use Rattle.x64_insn.specs.Table.{number_of}

-- a number, or the least multiple of k above it
abbrev pub rounded_up : ℕ → ℕ → ℕ
rounded_up k n = (n + (k - 1)) / k * k

-- ---- the preserved registers

-- the registers besides the stack pointer that belong to the caller (System V AMD64 ABI, 3.2.1)
abbrev pub preserved_registers : List Reg
preserved_registers = reg.Rbx ∷ reg.Rbp ∷ reg.R12 ∷ reg.R13 ∷ reg.R14 ∷ reg.R15 ∷ []

abbrev pub is_reg : Reg → Reg → Bool
is_reg r q = number_of r == number_of q

abbrev pub base_names : Base → Reg → Bool
base_names (base.Reg b) r = is_reg b r
base_names other r = false

abbrev pub index_names : Option (Reg × ℕ) → Reg → Bool
index_names None r = false
index_names (Some i) r = is_reg i.0 r

-- an address names its base and its index
abbrev pub mem_names : Mem → Reg → Bool
mem_names m r = base_names m.base r || index_names m.index r

abbrev pub operand_names : Operand → Reg → Bool
operand_names (operand.Reg q) r = is_reg q r
operand_names (operand.Imm n) r = false
operand_names (operand.Mem m) r = mem_names m r

-- an instruction names the registers of its operands
abbrev pub names : Insn → Reg → Bool
names (insn.Alu alu s to from) r = operand_names to r || operand_names from r
names (insn.Mov s to from) r = operand_names to r || operand_names from r
names (insn.Extend signed to from q rm) r = is_reg q r || operand_names rm r
names (insn.Lea q m) r = is_reg q r || mem_names m r
names (insn.One one s o) r = operand_names o r
names (insn.Wide wide s o) r = operand_names o r
names (insn.Imul s q o) r = is_reg q r || operand_names o r
names (insn.ImulBy s q o n) r = is_reg q r || operand_names o r
names (insn.Shift shift s o count) r = operand_names o r
names (insn.Bswap s q) r = is_reg q r
names insn.Cdq r = false
names insn.Cqo r = false
names (insn.Set cond o) r = operand_names o r
names (insn.Cmov cond s q o) r = is_reg q r || operand_names o r
names (insn.Jcc cond width n) r = false
names (insn.Jmp width n) r = false
names (insn.Call n) r = false
names insn.Ret r = false

-- the preserved registers that some instruction of the code names, in their order
abbrev pub saved_of : List Insn → List Reg
saved_of code = filter (λ r. list_any (λ i. names i r) code) preserved_registers

-- their slots in the frame, one above the other, the first at the next multiple of 8 above the
-- variables
abbrev pub slots_from : ℕ → List Reg → List (Reg × ℕ)
slots_from at [] = []
slots_from at (r ∷ rs) = (r, at) ∷ slots_from (at + 8) rs

abbrev pub saved_slots : ℕ → List Reg → List (Reg × ℕ)
saved_slots end saved = slots_from (rounded_up 8 end) saved

-- an offset in a frame of that size, counted from the stack pointer at entry
abbrev pub from_entry : ℕ → ℕ → ℤ
from_entry size offset = pos offset -ℤ pos size

-- ---- the size

-- the end of what stands in the frame: the preserved registers stand above the variables, from the
-- next multiple of 8 on
abbrev pub frame_end : ℕ → List Reg → ℕ
frame_end end [] = end
frame_end end (r ∷ rs) = rounded_up 8 end + 8 * length (r ∷ rs)

-- 0 for an empty frame, else the least number at or above its end that is 8 more than a multiple of
-- 16
abbrev pub frame_size : ℕ → ℕ
frame_size end = if end == 0 then 0 else 16 * ((end + 7) / 16) + 8
