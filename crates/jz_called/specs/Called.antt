-- Machine code that is called, from the start of a compiled function on an input, beside the body
-- over variables.
use Rattle.std.specs.Prelude.{◌≡◌, ◌≤◌, ◌⊎◌, ℕ, ◌+◌, ◌%◌, false, List, [], ◌∷◌, Some, None, slice_get, ⊤}
use Rattle.jz_words.specs.Memory.{Memory}
use Rattle.jz_words.specs.Sizes.{modulus}
use Rattle.x64_insn.specs.declared.types.Reg.{Reg}
use Rattle.x64_insn.specs.declared.types.Flag.{Flag}
use Rattle.x64_insn.specs.Rows.{place_of, known}
use Rattle.jz_leak.specs.RunLeaks.{Leak}
use Rattle.jz_leak.specs.Applying.{apply_of, Fits}
use Rattle.jz_runs.specs.Rules.{End, Cut, Stuck, Goes}
use Rattle.jz_listing.specs.declared.compiled.Arg.{Arg}
use Rattle.jz_listing.specs.declared.compiled.Compiled.{Compiled}
use Rattle.x64_machine.specs.Steps.{Config, steps_of}
use Rattle.x64_same_events.specs.SameEvents.{ReturnsFromEntry}
use Rattle.jz_operations.specs.declared.operation.Stacked.{Stacked}
use Rattle.jz_operations.specs.Values.{Value, word, State}
use Rattle.jz_placing.specs.Variables.{variables}
use Rattle.jz_place.specs.declared.tree.Ir.{Ir}
use Rattle.jz_place.specs.declared.tree.Passed.{Passed}
use Rattle.jz_place.specs.Bodies.{body_of}
use Rattle.jz_correct.specs.Starts.{MeetsPreconditions, IsStart}
use Rattle.jz_correct.specs.Agreement.{NeverFaults, EndsWith}
use Rattle.jz_correct.specs.Agreement.{step_bound}
use Rattle.jz_code.specs.Laying.{frame_of}
use Rattle.jz_code.specs.declared.code.MachineCode.{MachineCode}

-- a compiled function has these bytes, so many instructions, and this frame
pub record HasCode (c : Compiled) (m : MachineCode) : Type 0 where
  pub code : c.code ≡ m.bytes
  pub insns : c.insns ≡ m.insns
  pub frame : c.frame ≡ m.frame

-- ---- the input
-- a variable has the word of its argument, which stands in its register
abbrev pub IsArgument : List Arg → List ℕ → List Passed → ℕ → Value → Type 0
IsArgument (a ∷ rest) (w ∷ ws) (p ∷ ps) v x =
    ((p.variable.variable ≡ v) × (a.reg ≡ p.reg) × (x ≡ word a.size w)) ⊎ IsArgument rest ws ps v x
IsArgument _ _ _ v x = ⊥

-- where the body begins only the arguments have values; the memory is the input's
pub record Begins (f : Ir) (args : List Arg) (words : List ℕ) (memory : Memory) (σ : State)
    : Type 0 where
  pub vars : (v : ℕ) (x : Value) → σ.vars v ≡ Some x → IsArgument args words f.entry v x
  pub left : (r : Reg) → σ.left r ≡ None
  pub flags : (g : Flag) → known (slice_get σ.flags (place_of g)) ≡ None
  pub cells : (v i : ℕ) → σ.cells v i ≡ None
  pub bytes : σ.memory ≡ memory

-- ---- the results
-- each result's variable has its word, of the size that is listed, and its register is listed
abbrev pub AreResults : State → List Arg → List Passed → List ℕ → Type 0
AreResults τ [] [] [] = ⊤
AreResults τ (a ∷ rest) (p ∷ ps) (w ∷ ws) =
    ((a.reg ≡ p.reg)
    × ((n : ℕ) × (τ.vars p.variable.variable ≡ Some (word a.size n)) × (w ≡ n % modulus a.size)))
    × AreResults τ rest ps ws
AreResults τ _ _ _ = ⊥

-- ---- runs
module _ (m : MachineCode) (c : Compiled) (words : List ℕ) (rsp0 base : ℕ) (s : Config) where
  -- the bytes end within the bound, with the results, the memory, and the events that the
  -- transformer makes of what the body leaked
  pub record EndsToo (n : ℕ) (results : List ℕ) (memory : Memory) (l : Leak) : Type 0 where
    pub fits : Fits m.transformer l
    pub steps : ℕ
    pub within : steps ≤ step_bound c n
    pub ends : EndsWith c words rsp0 base s steps results memory (apply_of m.transformer l rsp0)
    pub returns : ReturnsFromEntry c.code base s steps

  -- the bytes run after n steps, never fault, and show after some number of steps, short of n by
  -- one for each instruction at most, what the transformer makes of the leak
  pub record GoesOnToo (n : ℕ) (l : Leak) : Type 0 where
    pub fits : Fits m.transformer l
    pub running : (steps_of c.code base s n).after.ended ≡ false
    pub steps : ℕ
    pub enough : n ≤ steps + c.insns
    pub within : steps ≤ step_bound c n
    pub running_there : (steps_of c.code base s steps).after.ended ≡ false
    pub shown : (steps_of c.code base s steps).events ≡ apply_of m.transformer l rsp0
    pub no_fault : NeverFaults c.code base s
    pub returns : ReturnsFromEntry c.code base s steps

-- from each start on each input that meets the preconditions, beside a state from which the body
-- is never stuck
pub record DoesAsCalled (f : Ir) (vs : List Stacked) (m : MachineCode) (c : Compiled) : Type 0 where
  pub ends :
      (words : List ℕ) (memory : Memory) (σ : State) → MeetsPreconditions c words memory
      → Begins f c.args words memory σ
      → ((n : ℕ) → Goes (variables (frame_of vs)) (body_of f.body) n σ (Stuck tt) → ⊥)
      → (rsp0 base : ℕ) (s : Config) → IsStart c words memory rsp0 base s
      → (n left : ℕ) (τ : State) (l : Leak) (results : List ℕ)
      → Goes (variables (frame_of vs)) (body_of f.body) n σ (End τ left l)
      → AreResults τ c.rets f.results results
      → EndsToo m c words rsp0 base s n results τ.memory l
  pub goes_on :
      (words : List ℕ) (memory : Memory) (σ : State) → MeetsPreconditions c words memory
      → Begins f c.args words memory σ
      → ((n : ℕ) → Goes (variables (frame_of vs)) (body_of f.body) n σ (Stuck tt) → ⊥)
      → (rsp0 base : ℕ) (s : Config) → IsStart c words memory rsp0 base s
      → (n : ℕ) (l : Leak) → Goes (variables (frame_of vs)) (body_of f.body) n σ (Cut l)
      → GoesOnToo m c words rsp0 base s n l
