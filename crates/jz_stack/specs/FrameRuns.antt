-- What a function with its frame does beside its body.
use Rattle.std.specs.Prelude.{◌≡◌, ◌≢◌, ◌⊎◌, ⊤, ℕ, ◌+◌, ◌-◌, ◌*◌, ◌%◌, ◌^◌, ◌<◌, ◌≤◌, true, false, List, [], ◌∷◌, length, Some, is_some, slice_index, slice_set}
use Rattle.std.specs.FinMap.{get}
use Rattle.jz_words.specs.Memory.{loaded}
use Rattle.x64_insn.specs.declared.types.Reg.{Reg}
use Rattle.x64_insn.specs.declared.types.FaultKind.{FaultKind}
use Rattle.x64_insn.specs.Table.{number_of}
use Rattle.jz_leak.specs.declared.event.Event.{Event}
use Rattle.jz_leak.specs.RunLeaks.{Leak}
use Rattle.jz_leak.specs.Applying.{apply_of, Fits}
use Rattle.jz_runs.specs.Rules.{End, Cut, Stuck, Goes}
use Rattle.x64_machine.specs.Steps.{Config, steps_of}
use Rattle.jz_placing.specs.Instructions.{Machine, Code, instructions}
use Rattle.jz_linear.specs.Lines.{linear_of, cases_of}
use Rattle.x64_assemble.specs.Assembling.{insns_of_lines, bytes_of_lines}
use Rattle.x64_assemble.specs.CodeRuns.{Going, EndsAt, NeverFaults, entered_at}
use Rattle.jz_stack.specs.Framed.{framed, framed_tr}

-- the shape of a frame: how many bytes it has, where the slots of saved registers begin, and which
-- these are
pub record Shape : Type 0 where
  pub size : ℕ
  pub at : ℕ
  pub saved : List Reg

-- none of the registers is the stack pointer
abbrev pub NoneIsRsp : List Reg → Type 0
NoneIsRsp [] = ⊤
NoneIsRsp (r ∷ rs) = (number_of r ≢ 4) × NoneIsRsp rs

-- a register is one of them, or none
abbrev pub Among : List Reg → Reg → Type 0
Among [] r = ⊥
Among (q ∷ rs) r = (q ≡ r) ⊎ Among rs r

abbrev pub NotAmong : List Reg → Reg → Type 0
NotAmong [] r = ⊤
NotAmong (q ∷ rs) r = (number_of q ≢ number_of r) × NotAmong rs r

-- the slots lie in the frame
pub record IsShape (f : Shape) : Type 0 where
  pub slots : f.at + 8 * length f.saved ≤ f.size
  pub small : f.size < 2 ^ 31
  pub none : NoneIsRsp f.saved

-- ---- at entry
-- the stack pointer is rsp0; the frame below it and the slot of the return address lie inside the
-- memory, and the bytes of the frame are valid
pub record HasRoom (size rsp0 : ℕ) (s0 : Machine) : Type 0 where
  pub sixteen : length s0.regs ≡ 16
  pub stack : slice_index s0.regs 4 ≡ rsp0
  pub below : size ≤ rsp0
  pub above : rsp0 + 8 ≤ 2 ^ 64
  pub valid : (q : ℕ) → rsp0 - size ≤ q → q < rsp0 → is_some (get s0.memory q) ≡ true

-- where the body begins: the stack pointer is down by the size of the frame, and each byte that is
-- in no slot of a saved register is as at entry; five flags stay five
pub record IsBegun (f : Shape) (rsp0 : ℕ) (s0 b : Machine) : Type 0 where
  pub regs : b.regs ≡ slice_set s0.regs 4 (rsp0 - f.size)
  pub flags : length s0.flags ≡ 5 → length b.flags ≡ 5
  pub memory : (q : ℕ)
      → (q < rsp0 - f.size + f.at) ⊎ (rsp0 - f.size + f.at + 8 * length f.saved ≤ q)
      → get b.memory q ≡ get s0.memory q

-- what the body keeps: the stack pointer, the slots, the return address
pub record Keeps (f : Shape) (rsp0 target : ℕ) (b s1 : Machine) : Type 0 where
  pub sixteen : length s1.regs ≡ 16
  pub stack : slice_index s1.regs 4 ≡ rsp0 - f.size
  pub slots : (q : ℕ) → rsp0 - f.size + f.at ≤ q
      → q < rsp0 - f.size + f.at + 8 * length f.saved → get s1.memory q ≡ get b.memory q
  pub return : loaded s1.memory rsp0 8 ≡ Some target

pub record BodyKeeps (f : Shape) (body : Code) (rsp0 target : ℕ) (b : Machine) : Type 0 where
  pub never_stuck : (n : ℕ) (w : FaultKind) → Goes instructions body n b (Stuck w) → ⊥
  pub keeps : (n left : ℕ) (s1 : Machine) (l : Leak)
      → Goes instructions body n b (End s1 left l) → Keeps f rsp0 target b s1

-- ---- the bytes of the function
abbrev pub code_of : Shape → Code → List ℕ
code_of f body = bytes_of_lines (linear_of (framed f.size f.at f.saved body))

abbrev pub insns_of : Shape → Code → ℕ
insns_of f body = length (insns_of_lines (linear_of (framed f.size f.at f.saved body)))

abbrev pub events_of : Shape → Code → Leak → ℕ → List Event
events_of f body l rsp0 = apply_of (framed_tr f.size f.at f.saved (cases_of body)) l rsp0

-- the machine behind the return, where the body ended in s1: the stack pointer is above the return
-- address, the saved registers are as at entry, the others and the memory as the body left them
pub record IsUndone (saved : List Reg) (rsp0 : ℕ) (s0 s1 : Machine) (last : Config)
    : Type 0 where
  pub stack : slice_index last.state.regs 4 ≡ (rsp0 + 8) % 2 ^ 64
  pub back : (r : Reg) → Among saved r
      → slice_index last.state.regs (number_of r) ≡ slice_index s0.regs (number_of r) % 2 ^ 64
  pub others : (r : Reg) → NotAmong saved r → number_of r ≢ 4
      → slice_index last.state.regs (number_of r) ≡ slice_index s1.regs (number_of r)
  pub memory : last.memory ≡ s1.memory

-- where the body ends the function returns, within as many steps for each turn and once more as it
-- has instructions
pub record FunctionEnds (f : Shape) (body : Code) (base rsp0 target : ℕ) (s0 : Machine)
    (n : ℕ) (s1 : Machine) (l : Leak) : Type 0 where
  pub steps : ℕ
  pub within : steps ≤ insns_of f body * (n + 1)
  pub last : Config
  pub ends : EndsAt (code_of f body) base steps (entered_at base rsp0 target s0)
      (events_of f body l rsp0) last
  pub undone : IsUndone f.saved rsp0 s0 s1 last

-- where it wants one more turn the function has not returned after n steps, and shows the events
pub record FunctionRuns (f : Shape) (body : Code) (base rsp0 target : ℕ) (s0 : Machine)
    (n : ℕ) (l : Leak) : Type 0 where
  pub running : (steps_of (code_of f body) base (entered_at base rsp0 target s0) n).after.ended
      ≡ false
  pub steps : ℕ
  pub enough : n ≤ steps + insns_of f body
  pub within : steps ≤ insns_of f body * (n + 1)
  pub there : Config
  pub going : Going (code_of f body) base steps (entered_at base rsp0 target s0)
      (events_of f body l rsp0) there

-- the bytes of the function do what its body does, for each number of turns, and never fault; and
-- the leak fits the transformer
pub record FunctionDoes (f : Shape) (body : Code) (base rsp0 target : ℕ) (s0 b : Machine)
    : Type 0 where
  pub ends : (n left : ℕ) (s1 : Machine) (l : Leak) → Goes instructions body n b (End s1 left l)
      → FunctionEnds f body base rsp0 target s0 n s1 l
  pub cuts : (n : ℕ) (l : Leak) → Goes instructions body n b (Cut l)
      → FunctionRuns f body base rsp0 target s0 n l
  pub faults : NeverFaults (code_of f body) base (entered_at base rsp0 target s0)
  pub ends_fit : (n left : ℕ) (s1 : Machine) (l : Leak)
      → Goes instructions body n b (End s1 left l)
      → Fits (framed_tr f.size f.at f.saved (cases_of body)) l
  pub cuts_fit : (n : ℕ) (l : Leak) → Goes instructions body n b (Cut l)
      → Fits (framed_tr f.size f.at f.saved (cases_of body)) l
