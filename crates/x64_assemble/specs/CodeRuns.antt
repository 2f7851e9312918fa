-- What a run of the machine over bytes comes to, and the run of a tree whose bytes they are.
use Rattle.std.specs.Prelude.{◌≡◌, ◌≢◌, ℕ, suc, ◌+◌, ◌*◌, ◌%◌, ◌^◌, ◌<◌, ◌≤◌, true, false, List, [], ◌∷◌, ◌++◌, Some, slice_index}
use Rattle.jz_words.specs.Memory.{loaded}
use Rattle.jz_words.specs.declared.size.Size.TheVariants.{S64}
use Rattle.x64_insn.specs.declared.types.FaultKind.{FaultKind}
use Rattle.x64_insn.specs.declared.types.Reg.TheVariants as reg
use Rattle.x64_insn.specs.Rows.{with_reg}
use Rattle.jz_leak.specs.declared.event.Event.{Event}
use Rattle.jz_leak.specs.declared.event.Event.TheVariants as event
use Rattle.jz_leak.specs.RunLeaks.{Leak}
use Rattle.jz_leak.specs.Applying.{body_events}
use Rattle.jz_runs.specs.Rules.{End, Cut, Stuck, Goes}
use Rattle.x64_machine.specs.declared.step.Step.TheVariants.{Running, Ended, Fault}
use Rattle.x64_machine.specs.Steps.{Config, step_of, steps_of}
use Rattle.x64_same_events.specs.SameEvents.{ReturnsFromEntry}
use Rattle.jz_placing.specs.Instructions.{Machine, Code, instructions}
use Rattle.jz_linear.specs.Plain.{state_at}
use Rattle.jz_linear.specs.Lines.{cases_of}

-- ---- a run of the machine
-- k steps that go on, with these events, to this configuration
pub record Going (code : List ℕ) (base k : ℕ) (c : Config) (es : List Event) (d : Config)
    : Type 0 where
  pub is : steps_of code base c k ≡ record { after = d; events = es }
  pub opens : (j : ℕ) → j < suc k → (steps_of code base c j).after.ended ≡ false
  pub answers : (j : ℕ) → j < k
      → (step_of code base (steps_of code base c j).after).answer ≡ Running
  pub returns : ReturnsFromEntry code base c k

-- it ends with its k-th step and not before, with these events, in this configuration
pub record EndsAt (code : List ℕ) (base k : ℕ) (c : Config) (es : List Event) (d : Config)
    : Type 0 where
  pub is : steps_of code base c k ≡ record { after = d; events = es }
  pub ended : d.ended ≡ true
  pub before : (j : ℕ) → j < k → (steps_of code base c j).after.ended ≡ false
  pub answers : (j : ℕ) → suc j < k
      → (step_of code base (steps_of code base c j).after).answer ≡ Running
  pub last : (j : ℕ) → suc j ≡ k
      → (step_of code base (steps_of code base c j).after).answer ≡ Ended
  pub returns : ReturnsFromEntry code base c k

-- no step faults, however many were made before
abbrev pub NeverFaults : List ℕ → ℕ → Config → Type 0
NeverFaults code base c = (j : ℕ) (f : FaultKind)
    → (step_of code base (steps_of code base c j).after).answer ≢ Fault f

-- ---- beside the run of a tree
-- at the first byte of the code, entered with this stack pointer and return address
abbrev pub entered_at : (base rsp0 target : ℕ) → Machine → Config
entered_at base rsp0 target s = record {
  state = state_at s base;
  memory = s.memory;
  ended = false;
  entry_rsp = rsp0;
  entry_return = Some target;
}

-- behind the return
abbrev pub left_at : (rsp0 target : ℕ) → Machine → Config
left_at rsp0 target s = record {
  state = record (with_reg (state_at s 0) S64 reg.Rsp ((rsp0 + 8) % 2 ^ 64)) { rip = target };
  memory = s.memory;
  ended = true;
  entry_rsp = rsp0;
  entry_return = Some target;
}

-- the tree is never stuck, and at each end the stack pointer is that of the entry and the return
-- address stands in its slot
pub record Returns (t : Code) (rsp0 target : ℕ) (s0 : Machine) : Type 0 where
  pub never_stuck : (n : ℕ) (w : FaultKind) → Goes instructions t n s0 (Stuck w) → ⊥
  pub stack : (n left : ℕ) (s1 : Machine) (l : Leak)
      → Goes instructions t n s0 (End s1 left l) → slice_index s1.regs 4 ≡ rsp0
  pub slot : (n left : ℕ) (s1 : Machine) (l : Leak)
      → Goes instructions t n s0 (End s1 left l) → loaded s1.memory rsp0 8 ≡ Some target

-- where the tree ends with some of n turns left, the machine ends with the events of its leak and
-- the slot of the return, within as many steps for each turn, and once more, as it has instructions
pub record MatchesEnd (t : Code) (code : List ℕ) (insns base rsp0 target : ℕ) (s0 : Machine)
    (n : ℕ) (s1 : Machine) (l : Leak) : Type 0 where
  pub steps : ℕ
  pub within : steps ≤ insns * (n + 1)
  pub ends : EndsAt code base steps (entered_at base rsp0 target s0)
      (body_events l rsp0 (cases_of t) ++ event.Addr rsp0 ∷ []) (left_at rsp0 target s1)

-- where the tree wants one more turn, the machine has not ended after n steps, and after some steps
-- that are short of n by one for each instruction at most the events are those of its leak
pub record MatchesCut (t : Code) (code : List ℕ) (insns base rsp0 target : ℕ) (s0 : Machine)
    (n : ℕ) (l : Leak) : Type 0 where
  pub running : (steps_of code base (entered_at base rsp0 target s0) n).after.ended ≡ false
  pub steps : ℕ
  pub enough : n ≤ steps + insns
  pub within : steps ≤ insns * (n + 1)
  pub there : Config
  pub going : Going code base steps (entered_at base rsp0 target s0)
      (body_events l rsp0 (cases_of t)) there

-- the bytes do what the tree does, for each number of turns
pub record DoesAs (t : Code) (code : List ℕ) (insns base rsp0 target : ℕ) (s0 : Machine)
    : Type 0 where
  pub ends : (n left : ℕ) (s1 : Machine) (l : Leak) → Goes instructions t n s0 (End s1 left l)
      → MatchesEnd t code insns base rsp0 target s0 n s1 l
  pub cuts : (n : ℕ) (l : Leak) → Goes instructions t n s0 (Cut l)
      → MatchesCut t code insns base rsp0 target s0 n l
  pub faults : NeverFaults code base (entered_at base rsp0 target s0)
