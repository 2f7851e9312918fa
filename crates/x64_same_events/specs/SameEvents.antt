-- Two runs of one code, wherever it stands, that show the same in the end show the same after each
-- number of steps.
use Rattle.std.specs.Prelude.{◌≡◌, ◌≢◌, ◌<◌, ◌≤◌, ℕ, ◌+◌, ◌^◌, false, true, List, length}
use Rattle.x64_insn.specs.declared.types.Insn.TheVariants as insn
use Rattle.x64_insn.specs.declared.types.FaultKind.{FaultKind}
use Rattle.x64_decode.specs.declared.Decoded.TheVariants as decoded
use Rattle.x64_machine.specs.declared.step.Step.TheVariants.{Fault}
use Rattle.x64_machine.specs.Steps.{Config, at_entry, insn_at, step_of, steps_of}

-- each RET that a run comes to, within so many steps, returns from the entry
abbrev pub ReturnsFromEntry : List ℕ → ℕ → Config → ℕ → Type 0
ReturnsFromEntry code base s k =
    (j len : ℕ) → j < k → (steps_of code base s j).after.ended ≡ false
    → insn_at code base (steps_of code base s j).after.state.rip ≡ decoded.Insn insn.Ret len
    → at_entry (steps_of code base s j).after ≡ true

-- a run begins at the code's first byte, and never faults
pub record Begins (code : List ℕ) (base : ℕ) (s : Config) : Type 0 where
  pub entry : s.state.rip ≡ base
  pub fits : base + length code ≤ 2 ^ 64
  pub running : s.ended ≡ false
  pub no_fault :
      (j : ℕ) (f : FaultKind)
      → (step_of code base (steps_of code base s j).after).answer ≢ Fault f

-- what a step shows depends on its operands, but not how much it shows, and where it goes depends on
-- what it shows alone
abbrev pub EventsAreTheSame : Type 0
EventsAreTheSame =
    (code : List ℕ) (base other : ℕ) (s t : Config) → Begins code base s → Begins code other t
    → (i j k : ℕ) → k ≤ i → k ≤ j
    → ReturnsFromEntry code base s k → ReturnsFromEntry code other t k
    → (steps_of code base s i).events ≡ (steps_of code other t j).events
    → (steps_of code base s k).events ≡ (steps_of code other t k).events
