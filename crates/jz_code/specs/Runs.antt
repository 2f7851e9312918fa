-- What the bytes of a function do beside its body over variables.
use Rattle.std.specs.Prelude.{◌≡◌, ◌≤◌, ℕ, ◌+◌, ◌*◌, ◌^◌, false, List, length}
use Rattle.x64_insn.specs.declared.types.Place.{Place}
use Rattle.jz_leak.specs.declared.transformer.Transformer.{Transformer}
use Rattle.jz_leak.specs.RunLeaks.{Leak}
use Rattle.jz_leak.specs.Applying.{apply_of, Fits}
use Rattle.jz_runs.specs.Rules.{End, Cut, Stuck, Goes}
use Rattle.x64_machine.specs.Steps.{Config, steps_of}
use Rattle.jz_operations.specs.Values.{State}
use Rattle.jz_operations.specs.Rows.{Frame}
use Rattle.jz_placing.specs.Instructions.{Machine}
use Rattle.jz_placing.specs.Variables.{variables}
use Rattle.jz_place.specs.declared.tree.Ir.{Ir}
use Rattle.jz_place.specs.Bodies.{body_of}
use Rattle.x64_assemble.specs.CodeRuns.{Going, EndsAt, NeverFaults, entered_at}
use Rattle.jz_code.specs.Entries.{StandsAtEntry, StandsAtReturn}

-- bytes, how many instructions they are, the size of the frame, and what leaks become
pub record Function : Type 0 where
  pub bytes : List ℕ
  pub insns : ℕ
  pub size : ℕ
  pub transformer : Transformer

module _ (f : Ir) (c : Function) (base rsp0 target : ℕ) (σ : State) (s : Machine) where
  -- where the body ends the function returns, within as many steps for each turn and once more as
  -- it has instructions, with the events that the transformer makes of what the body leaked
  pub record RunEnds (n : ℕ) (τ : State) (l : Leak) : Type 0 where
    pub steps : ℕ
    pub within : steps ≤ c.insns * (n + 1)
    pub last : Config
    pub ends : EndsAt c.bytes base steps (entered_at base rsp0 target s)
        (apply_of c.transformer l rsp0) last
    pub returned : StandsAtReturn f c.size rsp0 σ s τ last

  -- where it wants one more turn the function has not returned after n steps, and shows these
  -- events after some number of steps, short of n by one for each instruction at most
  pub record RunGoesOn (n : ℕ) (l : Leak) : Type 0 where
    pub running : (steps_of c.bytes base (entered_at base rsp0 target s) n).after.ended ≡ false
    pub steps : ℕ
    pub enough : n ≤ steps + c.insns
    pub within : steps ≤ c.insns * (n + 1)
    pub there : Config
    pub going : Going c.bytes base steps (entered_at base rsp0 target s)
        (apply_of c.transformer l rsp0) there

  -- for each number of turns; no step faults; and each leak fits the transformer
  pub record DoesAsItsBody (frame : Frame) : Type 0 where
    pub ends : (n left : ℕ) (τ : State) (l : Leak)
        → Goes (variables frame) (body_of f.body) n σ (End τ left l) → RunEnds n τ l
    pub goes_on : (n : ℕ) (l : Leak)
        → Goes (variables frame) (body_of f.body) n σ (Cut l) → RunGoesOn n l
    pub faults : NeverFaults c.bytes base (entered_at base rsp0 target s)
    pub ends_fit : (n left : ℕ) (τ : State) (l : Leak)
        → Goes (variables frame) (body_of f.body) n σ (End τ left l) → Fits c.transformer l
    pub cuts_fit : (n : ℕ) (l : Leak)
        → Goes (variables frame) (body_of f.body) n σ (Cut l) → Fits c.transformer l

-- From each machine that stands at the entry beside a state from which the body is never stuck.
abbrev pub DoesAll : Ir → Frame → (ℕ → Place) → Function → Type 0
DoesAll f frame places c =
    (base rsp0 target : ℕ) (σ : State) (s : Machine)
    → base + length c.bytes ≤ 2 ^ 64
    → StandsAtEntry f places c.size rsp0 target σ s
    → ((n : ℕ) → Goes (variables frame) (body_of f.body) n σ (Stuck tt) → ⊥)
    → DoesAsItsBody f c base rsp0 target σ s frame
