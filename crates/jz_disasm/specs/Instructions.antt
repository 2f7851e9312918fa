-- The texts of instructions, and a line of disassembly.
use Rattle.std.specs.Prelude.{ℕ, ◌+◌, List, ◌++◌, codes, length}
use Rattle.std.specs.Fmt.{signed_decimal}
use Rattle.hex.specs.Hex.{encode_lower}
use Rattle.jz_words.specs.declared.size.Size.{Size}
use Rattle.jz_words.specs.declared.size.Size.TheVariants.{S8, S64}
use Rattle.x64_insn.specs.declared.types.Reg.{Reg}
use Rattle.x64_insn.specs.declared.types.Operand.{Operand}
use Rattle.x64_insn.specs.declared.types.Insn.{Insn}
use Rattle.x64_insn.specs.declared.types.Insn.TheVariants as insn
use Rattle.jz_disasm.specs.Names.{suffix_text, sized_reg_text, alu_text, one_text, wide_text, shift_text, extend_text, cond_text}
use Rattle.jz_disasm.specs.Operands.{mem_text, operand_text, count_text, target_text, offset_text}

-- a mnemonic with its size
unfoldable pub head_text : List ℕ → Size → List ℕ
head_text name size = name ++ suffix_text size ++ codes " "

-- two operands of a size
unfoldable pub both_text : Size → Operand → Operand → List ℕ
both_text size to from = operand_text size to ++ codes ", " ++ operand_text size from

-- a register and an operand, each of a size
unfoldable pub reg_and_text : Size → Reg → Size → Operand → List ℕ
reg_and_text to r from rm = sized_reg_text to r ++ codes ", " ++ operand_text from rm

-- an instruction, by the offset after it. Of an instruction with two sizes the destination's is
-- told; jumps, calls and instructions without operands have none.
abbrev pub insn_text : ℕ → Insn → List ℕ
insn_text after (insn.Alu alu size to from) = head_text (alu_text alu) size ++ both_text size to from
insn_text after (insn.Mov size to from) = head_text (codes "mov") size ++ both_text size to from
insn_text after (insn.Extend signed to from r rm) =
    head_text (extend_text signed from) to ++ reg_and_text to r from rm
insn_text after (insn.Lea r m) =
    head_text (codes "lea") S64 ++ sized_reg_text S64 r ++ codes ", " ++ mem_text m
insn_text after (insn.One one size rm) = head_text (one_text one) size ++ operand_text size rm
insn_text after (insn.Wide wide size rm) = head_text (wide_text wide) size ++ operand_text size rm
insn_text after (insn.Imul size r rm) = head_text (codes "imul") size ++ reg_and_text size r size rm
insn_text after (insn.ImulBy size r rm by) =
    head_text (codes "imul") size ++ reg_and_text size r size rm ++ codes ", " ++ signed_decimal by
insn_text after (insn.Shift shift size rm count) =
    head_text (shift_text shift) size ++ operand_text size rm ++ codes ", " ++ count_text count
insn_text after (insn.Bswap size r) = head_text (codes "bswap") size ++ sized_reg_text size r
insn_text after insn.Cdq = codes "cdq"
insn_text after insn.Cqo = codes "cqo"
insn_text after (insn.Set cond rm) =
    codes "set" ++ cond_text cond ++ suffix_text S8 ++ codes " " ++ operand_text S8 rm
insn_text after (insn.Cmov cond size r rm) =
    codes "cmov" ++ cond_text cond ++ suffix_text size ++ codes " " ++ reg_and_text size r size rm
insn_text after (insn.Jcc cond width d) =
    codes "j" ++ cond_text cond ++ codes " " ++ target_text after d
insn_text after (insn.Jmp width d) = codes "jmp " ++ target_text after d
insn_text after (insn.Call d) = codes "call " ++ target_text after d
insn_text after insn.Ret = codes "ret"

-- a line: the offset, the bytes in hexadecimal digits, and the instruction
unfoldable pub line_text : ℕ → List ℕ → Insn → List ℕ
line_text offset bytes i =
    offset_text offset ++ codes " " ++ encode_lower bytes ++ codes " "
    ++ insn_text (offset + length bytes) i ++ codes "\n"
