-- The names of sizes, registers, operations and conditions in a line of disassembly.
use Rattle.std.specs.Prelude.{ℕ, List, Bool, true, false, codes}
use Rattle.jz_words.specs.declared.size.Size.{Size}
use Rattle.jz_words.specs.declared.size.Size.TheVariants.{S8, S16, S32, S64}
use Rattle.x64_insn.specs.declared.types.Reg.{Reg}
use Rattle.x64_insn.specs.declared.types.Reg.TheVariants as reg
use Rattle.x64_insn.specs.declared.types.Alu.{Alu}
use Rattle.x64_insn.specs.declared.types.Alu.TheVariants as alu
use Rattle.x64_insn.specs.declared.types.One.{One}
use Rattle.x64_insn.specs.declared.types.One.TheVariants as one
use Rattle.x64_insn.specs.declared.types.Wide.{Wide}
use Rattle.x64_insn.specs.declared.types.Wide.TheVariants as wide
use Rattle.x64_insn.specs.declared.types.Shift.{Shift}
use Rattle.x64_insn.specs.declared.types.Shift.TheVariants as shift
use Rattle.x64_insn.specs.declared.types.Cond.{Cond}
use Rattle.x64_insn.specs.declared.types.Cond.TheVariants as cond
use Rattle.jz_text.specs.Texts.{reg_text}

-- a size in bits, behind a mnemonic
unfoldable pub suffix_text : Size → List ℕ
suffix_text S8 = codes ".8"
suffix_text S16 = codes ".16"
suffix_text S32 = codes ".32"
suffix_text S64 = codes ".64"

-- ---- registers (Intel SDM vol. 1, 3.4.1 and table 3-2)
-- the lowest 8 bits
unfoldable pub byte_text : Reg → List ℕ
byte_text reg.Rax = codes "al"
byte_text reg.Rcx = codes "cl"
byte_text reg.Rdx = codes "dl"
byte_text reg.Rbx = codes "bl"
byte_text reg.Rsp = codes "spl"
byte_text reg.Rbp = codes "bpl"
byte_text reg.Rsi = codes "sil"
byte_text reg.Rdi = codes "dil"
byte_text reg.R8 = codes "r8b"
byte_text reg.R9 = codes "r9b"
byte_text reg.R10 = codes "r10b"
byte_text reg.R11 = codes "r11b"
byte_text reg.R12 = codes "r12b"
byte_text reg.R13 = codes "r13b"
byte_text reg.R14 = codes "r14b"
byte_text reg.R15 = codes "r15b"

-- the lowest 16 bits
unfoldable pub word_text : Reg → List ℕ
word_text reg.Rax = codes "ax"
word_text reg.Rcx = codes "cx"
word_text reg.Rdx = codes "dx"
word_text reg.Rbx = codes "bx"
word_text reg.Rsp = codes "sp"
word_text reg.Rbp = codes "bp"
word_text reg.Rsi = codes "si"
word_text reg.Rdi = codes "di"
word_text reg.R8 = codes "r8w"
word_text reg.R9 = codes "r9w"
word_text reg.R10 = codes "r10w"
word_text reg.R11 = codes "r11w"
word_text reg.R12 = codes "r12w"
word_text reg.R13 = codes "r13w"
word_text reg.R14 = codes "r14w"
word_text reg.R15 = codes "r15w"

-- the lowest 32 bits
unfoldable pub doubleword_text : Reg → List ℕ
doubleword_text reg.Rax = codes "eax"
doubleword_text reg.Rcx = codes "ecx"
doubleword_text reg.Rdx = codes "edx"
doubleword_text reg.Rbx = codes "ebx"
doubleword_text reg.Rsp = codes "esp"
doubleword_text reg.Rbp = codes "ebp"
doubleword_text reg.Rsi = codes "esi"
doubleword_text reg.Rdi = codes "edi"
doubleword_text reg.R8 = codes "r8d"
doubleword_text reg.R9 = codes "r9d"
doubleword_text reg.R10 = codes "r10d"
doubleword_text reg.R11 = codes "r11d"
doubleword_text reg.R12 = codes "r12d"
doubleword_text reg.R13 = codes "r13d"
doubleword_text reg.R14 = codes "r14d"
doubleword_text reg.R15 = codes "r15d"

-- a register's name at a size
unfoldable pub sized_reg_text : Size → Reg → List ℕ
sized_reg_text S8 r = byte_text r
sized_reg_text S16 r = word_text r
sized_reg_text S32 r = doubleword_text r
sized_reg_text S64 r = reg_text r

-- ---- mnemonics (Intel SDM vol. 2)
unfoldable pub alu_text : Alu → List ℕ
alu_text alu.Add = codes "add"
alu_text alu.Or = codes "or"
alu_text alu.Adc = codes "adc"
alu_text alu.Sbb = codes "sbb"
alu_text alu.And = codes "and"
alu_text alu.Sub = codes "sub"
alu_text alu.Xor = codes "xor"
alu_text alu.Cmp = codes "cmp"
alu_text alu.Test = codes "test"

unfoldable pub one_text : One → List ℕ
one_text one.Not = codes "not"
one_text one.Neg = codes "neg"
one_text one.Inc = codes "inc"
one_text one.Dec = codes "dec"

unfoldable pub wide_text : Wide → List ℕ
wide_text wide.Mul = codes "mul"
wide_text wide.Imul = codes "imul"
wide_text wide.Div = codes "div"
wide_text wide.Idiv = codes "idiv"

unfoldable pub shift_text : Shift → List ℕ
shift_text shift.Rol = codes "rol"
shift_text shift.Ror = codes "ror"
shift_text shift.Shl = codes "shl"
shift_text shift.Shr = codes "shr"
shift_text shift.Sar = codes "sar"

-- a move that extends an operand: with zeros, with the sign, with the sign of 32 bits
unfoldable pub extend_text : Bool → Size → List ℕ
extend_text false size = codes "movzx"
extend_text true S32 = codes "movsxd"
extend_text true S8 = codes "movsx"
extend_text true S16 = codes "movsx"
extend_text true S64 = codes "movsx"

-- a condition, behind `j`, `set` and `cmov` (appendix B.1.4.7)
unfoldable pub cond_text : Cond → List ℕ
cond_text cond.O = codes "o"
cond_text cond.No = codes "no"
cond_text cond.B = codes "b"
cond_text cond.Ae = codes "ae"
cond_text cond.E = codes "e"
cond_text cond.Ne = codes "ne"
cond_text cond.Be = codes "be"
cond_text cond.A = codes "a"
cond_text cond.S = codes "s"
cond_text cond.Ns = codes "ns"
cond_text cond.P = codes "p"
cond_text cond.Np = codes "np"
cond_text cond.L = codes "l"
cond_text cond.Ge = codes "ge"
cond_text cond.Le = codes "le"
cond_text cond.G = codes "g"
