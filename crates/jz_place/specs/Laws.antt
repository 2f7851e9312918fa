-- That the instructions of a body do what the body does; and what one operation reads and writes.
use Rattle.std.specs.Prelude.{◌≡◌, ℕ, Bool, false, List, IsTrue}
use Rattle.jz_words.specs.Memory.{Memory}
use Rattle.x64_insn.specs.declared.types.FaultKind.{FaultKind}
use Rattle.x64_insn.specs.declared.types.Place.{Place}
use Rattle.jz_ir.specs.Paths.{among}
use Rattle.jz_ir.specs.Places.{place_at, IsPlacing, IsWithin}
use Rattle.jz_leak.specs.RunLeaks.{Leak}
use Rattle.jz_live.specs.Lives.{live_before}
use Rattle.jz_runs.specs.Rules.{went, Outcome, Goes}
use Rattle.jz_operations.specs.declared.operation.Operation.{Operation}
use Rattle.jz_operations.specs.Values.{State}
use Rattle.jz_operations.specs.Rows.{Frame}
use Rattle.jz_operations.specs.Reading.{seen_of, writes_of}
use Rattle.jz_operations.specs.Frames.{IsLaid}
use Rattle.jz_operations.specs.Laws.{AreBeside}
use Rattle.jz_placing.specs.Instructions.{Machine, Code, instructions}
use Rattle.jz_placing.specs.Variables.{Body, does, variables, test_of}
use Rattle.jz_placing.specs.Flow.{flow}
use Rattle.jz_placing.specs.Following.{Follows}
use Rattle.jz_placing.specs.Placing.{leak_of, StandsBeside}
use Rattle.jz_place.specs.declared.tree.Ir.{Ir}
use Rattle.jz_place.specs.Bodies.{body_of, returns_of, seen_code, LiveInWhole}
use Rattle.jz_place.specs.Sorts.{AreSorted}

-- the places meet the rule of placing, over the entry, the body and the return, and the body is one
-- of its kinds
pub record AreGood (f : Ir) (list : List Place) : Type 0 where
  pub within : IsWithin (seen_code f)
  pub rule : IsPlacing (seen_code f) (LiveInWhole f) list
  pub sorted : AreSorted f.kinds (body_of f.body)

-- ---- runs beside runs
module _ (f : Ir) (places : ℕ → Place) (frame : Frame) (slots : ℕ → ℕ) (end low : ℕ)
    (r0 m0 : Memory) where
  -- a machine stands beside a run by what is live behind the entry
  abbrev pub AtEntry : State → Machine → Type 0
  AtEntry = StandsBeside places frame slots end low r0 m0
      (λ v. live_before v (flow seen_of test_of (body_of f.body) (returns_of f)) false)

  -- by what is live before the return
  abbrev pub AtReturn : State → Machine → Type 0
  AtReturn = StandsBeside places frame slots end low r0 m0
      (λ v. live_before v (returns_of f) false)

-- beside each run of the body that isn't stuck a machine runs the code, from what is live behind
-- the entry to what is live before the return: with as many turns left, and with the leak whose
-- cells have their addresses
abbrev pub KeepsRuns : Ir → (ℕ → Place) → (ℕ → ℕ) → Code → Type 0
KeepsRuns f places slots code =
    (frame : Frame) (end low : ℕ) (r0 m0 : Memory) (n : ℕ) (σ : State)
    (o : Outcome State (Unit {0}) Leak) (s : Machine) → IsLaid frame slots end
    → Goes (variables frame) (body_of f.body) n σ o
    → AtEntry f places frame slots end low r0 m0 σ s
    → Follows (Goes instructions code n s) (AtReturn f places frame slots end low r0 m0)
    (leak_of slots low (body_of f.body)) o

-- each run of the code is the one that follows a run of the body: so the machine is stuck only
-- where the body is
abbrev pub HasNoOtherRuns : Ir → (ℕ → Place) → (ℕ → ℕ) → Code → Type 0
HasNoOtherRuns f places slots code =
    (frame : Frame) (end low : ℕ) (r0 m0 : Memory) (n : ℕ) (σ : State)
    (s : Machine) (p : Outcome Machine FaultKind Leak) → IsLaid frame slots end
    → Goes instructions code n s p
    → AtEntry f places frame slots end low r0 m0 σ s
    → (o : Outcome State (Unit {0}) Leak) × Goes (variables frame) (body_of f.body) n σ o
    × Follows (λ q. q ≡ p) (AtReturn f places frame slots end low r0 m0)
    (leak_of slots low (body_of f.body)) o

-- ---- one operation
-- it does the same from τ as to σ, which it leaves in this state with these numbers shown: the same
-- numbers, and a state that differs in variables alone, in none that it writes and in none that
-- was the same
pub record DoesTheSame (frame : Frame) (o : Operation) (σ τ : State) (ns : List ℕ)
    (behind : State) : Type 0 where
  pub other : State
  pub step : does frame o τ ≡ went ns other
  pub beside : AreBeside behind other
  pub written : (v : ℕ) → IsTrue (among (writes_of o) v) → other.vars v ≡ behind.vars v
  pub kept : (v : ℕ) → τ.vars v ≡ σ.vars v → other.vars v ≡ behind.vars v
