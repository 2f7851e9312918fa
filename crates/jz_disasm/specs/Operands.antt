-- The texts of operands.
use Rattle.std.specs.Prelude.{ℕ, zero, suc, ℤ, pos, negsuc, ◌+ℤ◌, if◌then◌else◌, int_lt, List, [], ◌++◌, codes, decimal, Option, Some, None}
use Rattle.std.specs.Fmt.{signed_decimal}
use Rattle.std.specs.Int.{w32, to_be_bytes}
use Rattle.hex.specs.Hex.{encode_lower}
use Rattle.jz_words.specs.declared.size.Size.{Size}
use Rattle.jz_words.specs.declared.size.Size.TheVariants.{S32}
use Rattle.jz_words.specs.Words.{residue}
use Rattle.jz_text.specs.Texts.{reg_text}
use Rattle.x64_insn.specs.declared.types.Reg.{Reg}
use Rattle.x64_insn.specs.declared.types.Base.{Base}
use Rattle.x64_insn.specs.declared.types.Base.TheVariants as base
use Rattle.x64_insn.specs.declared.types.Mem.{Mem}
use Rattle.x64_insn.specs.declared.types.Operand.{Operand}
use Rattle.x64_insn.specs.declared.types.Operand.TheVariants as operand
use Rattle.x64_insn.specs.declared.types.Count.{Count}
use Rattle.x64_insn.specs.declared.types.Count.TheVariants as count
use Rattle.jz_disasm.specs.Names.{sized_reg_text}

-- an offset of at most 32 bits, in eight hexadecimal digits
unfoldable pub offset_text : ℕ → List ℕ
offset_text n = encode_lower (to_be_bytes w32 n)

-- a plus where a number is not below 0
abbrev pub plus_text : ℤ → List ℕ
plus_text d = if int_lt d (pos 0) then [] else codes "+"

-- a number with its sign, whichever it is
unfoldable pub added_text : ℤ → List ℕ
added_text d = plus_text d ++ signed_decimal d

-- a number that is added to something: 0 is left out
unfoldable pub more_text : ℤ → List ℕ
more_text (pos zero) = []
more_text (pos (suc n)) = added_text (pos (suc n))
more_text (negsuc n) = added_text (negsuc n)

-- an index with its scale
unfoldable pub index_text : Reg → ℕ → List ℕ
index_text r scale = decimal scale ++ codes "*" ++ reg_text r

-- the sum that an address is: the base, the scaled index and the displacement, as far as they are
-- there. The displacement to rip is always told, and stands alone where there is nothing else.
unfoldable pub sum_text : Base → Option (Reg × ℕ) → ℤ → List ℕ
sum_text base.Absent None d = signed_decimal d
sum_text base.Absent (Some i) d = index_text i.0 i.1 ++ more_text d
sum_text (base.Reg r) None d = reg_text r ++ more_text d
sum_text (base.Reg r) (Some i) d = reg_text r ++ codes "+" ++ index_text i.0 i.1 ++ more_text d
sum_text base.Rip i d = codes "rip" ++ added_text d

-- an address
unfoldable pub mem_text : Mem → List ℕ
mem_text m = codes "[" ++ sum_text m.base m.index m.disp ++ codes "]"

-- an operand of a size
unfoldable pub operand_text : Size → Operand → List ℕ
operand_text size (operand.Reg r) = sized_reg_text size r
operand_text size (operand.Imm i) = signed_decimal i
operand_text size (operand.Mem m) = mem_text m

-- how far a shift goes
unfoldable pub count_text : Count → List ℕ
count_text (count.Imm n) = decimal n
count_text count.Cl = codes "cl"

-- where a jump goes: the offset after it and its displacement, modulo 2^32
unfoldable pub target_text : ℕ → ℤ → List ℕ
target_text after d = offset_text (residue S32 (pos after +ℤ d))
