-- The disassembly of code: the lines of the instructions that its bytes are, one after another.
use Rattle.std.specs.Prelude.{◌≡◌, ◌<◌, ℕ, ◌+◌, List, [], ◌∷◌, ◌++◌, length, All, Result, Ok, Err}
use Rattle.x64_insn.specs.declared.types.Insn.{Insn}
use Rattle.x64_insn.specs.Encoding.{Spells, Decodes, IsBeginning}
use Rattle.jz_disasm.specs.Instructions.{line_text}
use Rattle.jz_disasm.specs.declared.disassembly.Gap.{Gap}
use Rattle.jz_disasm.specs.declared.disassembly.GapKind.{GapKind}
use Rattle.jz_disasm.specs.declared.disassembly.GapKind.TheVariants.{Unknown, Truncated}

-- an instruction and the bytes that spell it
abbrev pub Spelled : Type 0
Spelled = List ℕ × Insn

abbrev pub IsSpelled : Spelled → Type 0
IsSpelled p = Spells p.0 p.1

-- the bytes of instructions, one after another
unfoldable pub bytes_of : List Spelled → List ℕ
bytes_of [] = []
bytes_of (p ∷ ps) = p.0 ++ bytes_of ps

-- their lines, the first of them at an offset
unfoldable pub lines_text : ℕ → List Spelled → List ℕ
lines_text offset [] = []
lines_text offset (p ∷ ps) = line_text offset p.0 p.1 ++ lines_text (offset + length p.0) ps

-- The code is instructions, one after another, and the text is their lines.
pub record IsDisassembly (code text : List ℕ) : Type 0 where
  pub insns : List Spelled
  pub spelled : All IsSpelled insns
  pub whole : bytes_of insns ≡ code
  pub lines : text ≡ lines_text 0 insns

-- no instruction stands at the head of bytes: an instruction has more bytes than there are, or none
-- begins so
abbrev pub HasNoInsn : List ℕ → GapKind → Type 0
HasNoInsn bytes Truncated = IsBeginning bytes
HasNoInsn bytes Unknown = (¬ IsBeginning bytes) × ((i : Insn) (len : ℕ) → ¬ Decodes bytes i len)

-- Instructions stand one after another up to an offset within the code, and none stands there.
pub record IsGap (code : List ℕ) (gap : Gap) : Type 0 where
  pub insns : List Spelled
  pub spelled : All IsSpelled insns
  pub rest : List ℕ
  pub splits : code ≡ bytes_of insns ++ rest
  pub offset : gap.offset ≡ length (bytes_of insns)
  pub some : 0 < length rest
  pub none : HasNoInsn rest gap.kind

-- the lines of the whole code, or the first offset without an instruction
abbrev pub Disassembles : List ℕ → Result (List ℕ) Gap → Type 0
Disassembles code (Ok text) = IsDisassembly code text
Disassembles code (Err gap) = IsGap code gap
