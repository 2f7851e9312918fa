-- A machine at the entry of a function, beside a state over variables; and behind its return.
use Rattle.std.specs.Prelude.{◌≡◌, ◌<◌, ◌≤◌, ◌⊎◌, ℕ, ◌+◌, ◌-◌, ◌%◌, ◌^◌, Bool, false, Some, None, IsTrue, length, slice_get, slice_index, Contains, is_some}
use Rattle.std.specs.List.{AllByRecursion}
use Rattle.std.specs.FinMap.{get}
use Rattle.jz_words.specs.Memory.{loaded}
use Rattle.x64_insn.specs.declared.types.Place.{Place}
use Rattle.x64_insn.specs.declared.types.Place.TheVariants as place
use Rattle.x64_insn.specs.declared.types.Reg.{Reg}
use Rattle.x64_insn.specs.declared.types.Flag.{Flag}
use Rattle.x64_insn.specs.declared.types.State as machine
use Rattle.x64_insn.specs.Rows.{place_of, known}
use Rattle.x64_insn.specs.Table.{number_of}
use Rattle.x64_machine.specs.Steps.{Config}
use Rattle.jz_live.specs.Lives.{live_before}
use Rattle.jz_operations.specs.Values.{Value, word, boolean, State}
use Rattle.jz_operations.specs.Reading.{seen_of}
use Rattle.jz_operations.specs.Standing.{Stands}
use Rattle.jz_placing.specs.Instructions.{Machine, state_of}
use Rattle.jz_placing.specs.Variables.{test_of}
use Rattle.jz_placing.specs.Flow.{flow}
use Rattle.jz_place.specs.declared.tree.Ir.{Ir}
use Rattle.jz_place.specs.declared.tree.Passed.{Passed}
use Rattle.jz_place.specs.Bodies.{body_of, returns_of}
use Rattle.jz_correct.specs.Frames.{preserved_registers}
use Rattle.jz_stack.specs.FrameRuns.{HasRoom}

-- a word stands in its register; where a function begins no flag has a value
abbrev pub IsWordAt : Value → Place → machine.State → Type 0
IsWordAt (word s n) p st = Stands (word s n) p st
IsWordAt (boolean b) p st = ⊥

-- live where the body begins
abbrev pub IsWanted : Ir → ℕ → Type 0
IsWanted f v =
    IsTrue (live_before v (flow seen_of test_of (body_of f.body) (returns_of f)) false)

-- Each variable that is live there, and has a value, has its word in its register. The memory has
-- the bytes of the state's; the frame below the stack pointer and the return address stand apart
-- from them.
pub record StandsAtEntry (f : Ir) (places : ℕ → Place) (size rsp0 target : ℕ) (σ : State)
    (s : Machine) : Type 0 where
  pub room : HasRoom size rsp0 s
  pub flags : length s.flags ≡ 5
  pub words : (r : Reg) → slice_index s.regs (number_of r) < 2 ^ 64
  pub return : loaded s.memory rsp0 8 ≡ Some target
  pub vars : (v : ℕ) (x : Value) → IsWanted f v → σ.vars v ≡ Some x
      → IsWordAt x (places v) (state_of s)
  pub no_left : (r : Reg) → σ.left r ≡ None
  pub no_flag : (g : Flag) (b : Bool) → known (slice_get σ.flags (place_of g)) ≡ Some b → ⊥
  pub no_cell : (v i : ℕ) → σ.cells v i ≡ None
  pub bytes : (q b : ℕ) → get σ.memory q ≡ Some b → get s.memory q ≡ Some b
  pub apart : (q : ℕ) → rsp0 - size ≤ q → q < rsp0 + 8 → get σ.memory q ≡ None

-- a result that has a value has its word in its register
abbrev pub ResultStands : State → Config → Passed → Type 0
ResultStands τ last p =
    (x : Value) → τ.vars p.variable.variable ≡ Some x → Stands x (place.Reg p.reg) last.state

-- Behind the return, where the body ended in τ.
pub record StandsAtReturn (f : Ir) (size rsp0 : ℕ) (σ : State) (s : Machine) (τ : State)
    (last : Config) : Type 0 where
  pub results : AllByRecursion (ResultStands τ last) f.results
  -- the memory has the bytes of the state's, which are where they were at entry
  pub bytes : (q b : ℕ) → get τ.memory q ≡ Some b → get last.memory q ≡ Some b
  pub valid : (q : ℕ) → is_some (get τ.memory q) ≡ is_some (get σ.memory q)
  -- every other byte outside the frame is as at entry
  pub others : (q : ℕ) → get σ.memory q ≡ None → (q < rsp0 - size) ⊎ (rsp0 ≤ q)
      → get last.memory q ≡ get s.memory q
  -- so are the registers of the caller (System V AMD64 ABI, 3.2.1)
  pub preserved : (r : Reg) → Contains preserved_registers r
      → slice_index last.state.regs (number_of r) ≡ slice_index s.regs (number_of r)
  -- the return address is taken off the stack
  pub stack : slice_index last.state.regs 4 ≡ (rsp0 + 8) % 2 ^ 64
