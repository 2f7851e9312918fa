-- Which instructions and which trees of them become lines: no instruction is a jump, and none names
-- RIP, so each does the same wherever it stands.
use Rattle.std.specs.Prelude.{◌≡◌, ℕ, Bool, true, false, ◌&&◌, Some, None, ⊤}
use Rattle.x64_insn.specs.declared.types.Insn.{Insn}
use Rattle.x64_insn.specs.declared.types.Insn.TheVariants as insn
use Rattle.x64_insn.specs.declared.types.Operand.{Operand}
use Rattle.x64_insn.specs.declared.types.Operand.TheVariants as operand
use Rattle.x64_insn.specs.declared.types.Base.{Base}
use Rattle.x64_insn.specs.declared.types.Base.TheVariants as base
use Rattle.x64_insn.specs.declared.types.State.{State}
use Rattle.x64_insn.specs.Chosen.{is_spelled}
use Rattle.jz_runs.specs.Trees.{done, op, quiet, choose, loop, each, call}
use Rattle.jz_placing.specs.Instructions.{Machine, Test, always, if_holds, Code}

-- the state of a machine at an address
abbrev pub state_at : Machine → ℕ → State
state_at s rip = record { regs = s.regs; rip = rip; flags = s.flags }

-- ---- instructions
abbrev pub is_no_rip : Base → Bool
is_no_rip base.Rip = false
is_no_rip other = true

abbrev pub names_no_rip : Operand → Bool
names_no_rip (operand.Mem a) = is_no_rip a.base
names_no_rip other = true

-- no jump, no call, no return, and no address that counts from RIP
abbrev pub is_plain : Insn → Bool
is_plain (insn.Alu o s to from) = names_no_rip to && names_no_rip from
is_plain (insn.Mov s to from) = names_no_rip to && names_no_rip from
is_plain (insn.Extend signed to from r rm) = names_no_rip rm
is_plain (insn.Lea r a) = is_no_rip a.base
is_plain (insn.One o s rm) = names_no_rip rm
is_plain (insn.Wide o s rm) = names_no_rip rm
is_plain (insn.Imul s r rm) = names_no_rip rm
is_plain (insn.ImulBy s r rm i) = names_no_rip rm
is_plain (insn.Shift kind s rm n) = names_no_rip rm
is_plain (insn.Bswap s r) = true
is_plain insn.Cdq = true
is_plain insn.Cqo = true
is_plain (insn.Set c rm) = names_no_rip rm
is_plain (insn.Cmov c s r rm) = names_no_rip rm
is_plain (insn.Jcc c w d) = false
is_plain (insn.Jmp w d) = false
is_plain (insn.Call d) = false
is_plain insn.Ret = false

-- and it has a spelling
abbrev pub IsPlain : Insn → Type 0
IsPlain i = (is_plain i ≡ true) × (is_spelled i ≡ true)

-- ---- trees
abbrev pub IsPlainTest : Test → Type 0
IsPlainTest always = ⊤
IsPlainTest (if_holds None c) = ⊤
IsPlainTest (if_holds (Some i) c) = IsPlain i

-- an `if` asks a condition
abbrev pub Asks : Test → Type 0
Asks always = ⊥
Asks (if_holds i c) = ⊤

-- a `while` that is written without a body has none
abbrev pub HasForm : Bool → Code → Type 0
HasForm false b = ⊤
HasForm true done = ⊤
HasForm true b = ⊥

-- what becomes lines
abbrev pub IsPlainCode : Code → Type 0
IsPlainCode done = ⊤
IsPlainCode (op i r) = IsPlain i × IsPlainCode r
IsPlainCode (quiet i r) = IsPlainCode r
IsPlainCode (choose c a b r) =
    IsPlainTest c × Asks c × IsPlainCode a × IsPlainCode b × IsPlainCode r
IsPlainCode (loop q p c b r) =
    IsPlainTest c × HasForm q b × IsPlainCode p × IsPlainCode b × IsPlainCode r
IsPlainCode (each f b r) = ⊥
IsPlainCode (call c b r) = ⊥
