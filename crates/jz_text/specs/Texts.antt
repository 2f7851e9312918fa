-- Texts of places and registers.
use Rattle.std.specs.Prelude.{ℕ, List, ◌++◌, codes, decimal}
use Rattle.jz_io.specs.declared.span.Span.{Span}
use Rattle.x64_insn.specs.declared.types.Reg.{Reg}
use Rattle.x64_insn.specs.declared.types.Reg.TheVariants as reg

-- a line and a column
unfoldable pub span_text : Span → List ℕ
span_text s = decimal s.line ++ codes ":" ++ decimal s.col

-- the name of a register's 64 bits
abbrev pub reg_text : Reg → List ℕ
reg_text reg.Rax = codes "rax"
reg_text reg.Rcx = codes "rcx"
reg_text reg.Rdx = codes "rdx"
reg_text reg.Rbx = codes "rbx"
reg_text reg.Rsp = codes "rsp"
reg_text reg.Rbp = codes "rbp"
reg_text reg.Rsi = codes "rsi"
reg_text reg.Rdi = codes "rdi"
reg_text reg.R8 = codes "r8"
reg_text reg.R9 = codes "r9"
reg_text reg.R10 = codes "r10"
reg_text reg.R11 = codes "r11"
reg_text reg.R12 = codes "r12"
reg_text reg.R13 = codes "r13"
reg_text reg.R14 = codes "r14"
reg_text reg.R15 = codes "r15"
