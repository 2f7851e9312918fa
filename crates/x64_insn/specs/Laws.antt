-- The instruction table in the words of the manual.
use Rattle.std.specs.Prelude.{◌≡◌, ◌≢◌, ◌↔◌, ◌<◌, ◌≤◌, ℕ, ◌+◌, ◌%◌, ◌^◌, bit_xor, true, ◌⊎◌, Some, None, Ok, length, List, [], ◌∷◌, ◌++◌, pos, ◌+ℤ◌, ◌-ℤ◌}
use Rattle.std.specs.FinMap.{get}
use Rattle.jz_words.specs.declared.size.Size.{Size}
use Rattle.jz_words.specs.declared.size.Size.TheVariants.{S8, S64}
use Rattle.jz_words.specs.Sizes.{bytes_of, signed}
use Rattle.jz_words.specs.Words.{has_even_ones, residue}
use Rattle.jz_words.specs.Memory.{Memory}
use Rattle.x64_insn.specs.declared.types.Reg.{Reg}
use Rattle.x64_insn.specs.declared.types.Reg.TheVariants as reg
use Rattle.x64_insn.specs.declared.types.Operand.{Operand}
use Rattle.x64_insn.specs.declared.types.Operand.TheVariants as operand
use Rattle.x64_insn.specs.declared.types.Alu.{Alu}
use Rattle.x64_insn.specs.declared.types.Insn.{Insn}
use Rattle.x64_insn.specs.declared.types.Insn.TheVariants as insn
use Rattle.x64_insn.specs.declared.types.Flag.{Flag}
use Rattle.x64_insn.specs.declared.types.Flag.TheVariants.{Of, Cf, Sf, Pf, Zf}
use Rattle.x64_insn.specs.declared.types.FlagVal.TheVariants.{True, Undefined}
use Rattle.x64_insn.specs.declared.types.State.{State}
use Rattle.x64_insn.specs.Products.{IsNoWord}
use Rattle.x64_insn.specs.Rows.{After, address_of, effect_of, flag_of, reg_value, reg_word}

-- some byte of the n from an address on is not valid
abbrev pub HasInvalidByte : Memory → ℕ → ℕ → Type 0
HasInvalidByte m a n = (k : ℕ) × (k < n) × (get m ((a + k) % 2 ^ 64) ≡ None)

-- the address of an operand in memory and the number of bytes at it, of a size
abbrev pub bytes_at : Operand → Size → ℕ → State → List (ℕ × ℕ)
bytes_at (operand.Reg r) s next st = []
bytes_at (operand.Imm i) s next st = []
bytes_at (operand.Mem a) s next st = (address_of st next a, bytes_of s) ∷ []

-- what an instruction accesses, next being the address of the one behind it: addresses, with the
-- number of bytes at each
abbrev pub accessed_bytes : Insn → ℕ → State → List (ℕ × ℕ)
accessed_bytes (insn.Alu op s to from) next st = bytes_at to s next st ++ bytes_at from s next st
accessed_bytes (insn.Mov s to from) next st = bytes_at to s next st ++ bytes_at from s next st
accessed_bytes (insn.Extend sign to from r rm) next st = bytes_at rm from next st
accessed_bytes (insn.Lea r a) next st = []
accessed_bytes (insn.One op s rm) next st = bytes_at rm s next st
accessed_bytes (insn.Wide op s rm) next st = bytes_at rm s next st
accessed_bytes (insn.Imul s r rm) next st = bytes_at rm s next st
accessed_bytes (insn.ImulBy s r rm i) next st = bytes_at rm s next st
accessed_bytes (insn.Shift kind s rm n) next st = bytes_at rm s next st
accessed_bytes (insn.Bswap s r) next st = []
accessed_bytes insn.Cdq next st = []
accessed_bytes insn.Cqo next st = []
accessed_bytes (insn.Set c rm) next st = bytes_at rm S8 next st
accessed_bytes (insn.Cmov c s r rm) next st = bytes_at rm s next st
accessed_bytes (insn.Jcc c width disp) next st = []
accessed_bytes (insn.Jmp width disp) next st = []
accessed_bytes (insn.Call disp) next st =
    (residue S64 (pos (reg_value st reg.Rsp) -ℤ pos 8), 8) ∷ []
accessed_bytes insn.Ret next st = (reg_value st reg.Rsp, 8) ∷ []

-- some byte of one of these is not valid
abbrev pub HasInvalidAccess : Memory → List (ℕ × ℕ) → Type 0
HasInvalidAccess m [] = ⊥
HasInvalidAccess m (x ∷ xs) = HasInvalidByte m x.0 x.1 ⊎ HasInvalidAccess m xs

-- the word of 64 bits that an operand names, which is a register or an immediate
abbrev pub IsWordOf : State → Operand → ℕ → Type 0
IsWordOf st (operand.Reg r) b = reg_word st S64 r ≡ b
IsWordOf st (operand.Imm i) b = residue S64 i ≡ b
IsWordOf st (operand.Mem m) b = ⊥

-- A register holds the word r, and the status flags say of it what they should (SDM vol. 1,
-- 3.4.3.1): OF that it overflows, CF that it carries or borrows, SF its highest bit, PF that its
-- lowest byte has an even number of ones, ZF that it is 0. None is undefined.
pub record ShowsResult
    (to : Reg) (r : ℕ) (Overflows Carries IsZero : Type 0) (st : State) : Type 0 where
  -- of the sixteen registers that a machine has
  pub value : length st.regs ≡ 16 → reg_word st S64 to ≡ r
  pub overflow : (flag_of st Of ≡ Some True) ↔ Overflows
  pub carry : (flag_of st Cf ≡ Some True) ↔ Carries
  pub sign : (flag_of st Sf ≡ Some True) ↔ (2 ^ 63 ≤ r)
  pub parity : (flag_of st Pf ≡ Some True) ↔ (has_even_ones r ≡ true)
  pub zero : (flag_of st Zf ≡ Some True) ↔ IsZero
  pub defined : (f : Flag) → flag_of st f ≢ Some Undefined

-- the sum of two words of 64 bits
abbrev pub ShowsSum : Reg → ℕ → ℕ → State → Type 0
ShowsSum to a b =
    ShowsResult to ((a + b) % 2 ^ 64) (IsNoWord S64 (signed S64 a +ℤ signed S64 b))
    (2 ^ 64 ≤ a + b) ((a + b) % 2 ^ 64 ≡ 0)

-- their difference, which borrows exactly where it is below 0
abbrev pub ShowsDifference : Reg → ℕ → ℕ → State → Type 0
ShowsDifference to a b =
    ShowsResult to (residue S64 (pos a -ℤ pos b)) (IsNoWord S64 (signed S64 a -ℤ signed S64 b))
    (a < b) (a ≡ b)

-- the bits in which they differ, which never overflow nor carry
abbrev pub ShowsDifferentBits : Reg → ℕ → ℕ → State → Type 0
ShowsDifferentBits to a b = ShowsResult to (bit_xor a b) ⊥ ⊥ (a ≡ b)

-- an operation on a register and an operand that is no memory makes a step, after which this holds
-- of the register, the two words and the state
abbrev pub Leaves : Alu → (Reg → ℕ → ℕ → State → Type 0) → Type 0
Leaves operation Shows =
    (to : Reg) (from : Operand) (b next : ℕ) (st : State) (m : Memory) → IsWordOf st from b
    → (after : After)
    × (effect_of (insn.Alu operation S64 (operand.Reg to) from) next st m ≡ Ok after)
    × Shows to (reg_word st S64 to) b after.state
