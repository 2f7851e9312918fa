-- Runs of lines. A place is a number of instructions before it; labels are no steps.
use Rattle.std.specs.Prelude.{◌≡◌, ◌≢◌, ⊤, ℕ, zero, suc, ◌+◌, ◌==◌, List, [], ◌∷◌, ◌++◌, true, false, if◌then◌else◌, Option, Some, None, Ok}
use Rattle.x64_insn.specs.declared.types.Insn.{Insn}
use Rattle.x64_insn.specs.declared.types.Cond.{Cond}
use Rattle.x64_insn.specs.Rows.{After, effect_of, holds}
use Rattle.jz_leak.specs.declared.event.Event.{Event}
use Rattle.jz_leak.specs.declared.event.Event.TheVariants as event
use Rattle.x64_machine.specs.Steps.{events_of}
use Rattle.jz_placing.specs.Instructions.{Machine, machine_of}
use Rattle.jz_linear.specs.Plain.{state_at, is_plain}
use Rattle.jz_linear.specs.declared.line.Line.{Line}
use Rattle.jz_linear.specs.declared.line.Line.TheVariants as line

-- the lines that are no labels
abbrev pub instructions_in : List Line → List Line
instructions_in [] = []
instructions_in (line.Label l ∷ ls) = instructions_in ls
instructions_in (line.Insn i ∷ ls) = line.Insn i ∷ instructions_in ls
instructions_in (line.Jcc c l ∷ ls) = line.Jcc c l ∷ instructions_in ls
instructions_in (line.Jmp l ∷ ls) = line.Jmp l ∷ instructions_in ls
instructions_in (line.Call l ∷ ls) = line.Call l ∷ instructions_in ls

-- where a label stands: how many instructions stand before it
abbrev pub place_of : List Line → ℕ → ℕ
place_of [] k = 0
place_of (line.Label l ∷ ls) k = if l == k then 0 else place_of ls k
place_of (line.Insn i ∷ ls) k = 1 + place_of ls k
place_of (line.Jcc c l ∷ ls) k = 1 + place_of ls k
place_of (line.Jmp l ∷ ls) k = 1 + place_of ls k
place_of (line.Call l ∷ ls) k = 1 + place_of ls k

-- ---- labels
-- a label does not stand in them
abbrev pub Lacks : List Line → ℕ → Type 0
Lacks [] k = ⊤
Lacks (line.Label l ∷ ls) k = (l ≢ k) × Lacks ls k
Lacks (line.Insn i ∷ ls) k = Lacks ls k
Lacks (line.Jcc c l ∷ ls) k = Lacks ls k
Lacks (line.Jmp l ∷ ls) k = Lacks ls k
Lacks (line.Call l ∷ ls) k = Lacks ls k

-- each label stands in them once
abbrev pub Once : List Line → Type 0
Once [] = ⊤
Once (line.Label l ∷ ls) = Lacks ls l × Once ls
Once (line.Insn i ∷ ls) = Once ls
Once (line.Jcc c l ∷ ls) = Once ls
Once (line.Jmp l ∷ ls) = Once ls
Once (line.Call l ∷ ls) = Once ls

-- ---- runs
-- what stands at a place
abbrev pub at_place : {A : Type 0} → List A → ℕ → Option A
at_place [] k = None
at_place (x ∷ xs) zero = Some x
at_place (x ∷ xs) (suc k) = at_place xs k

-- instructions in their order, and the place of each label
pub record Resolved : Type 0 where
  pub code : List Line
  pub place : ℕ → ℕ

abbrev pub resolved : List Line → Resolved
resolved ls = record { code = instructions_in ls; place = place_of ls }

-- one step, and its events
pub data Steps (c : Resolved) : ℕ → Machine → List Event → ℕ → Machine → Type 0 where
  executed :
      {pc : ℕ} {s : Machine} (i : Insn) (a : After) → at_place c.code pc ≡ Some (line.Insn i)
      → is_plain i ≡ true → effect_of i 0 (state_at s 0) s.memory ≡ Ok a
      → Steps c pc s (events_of a.leak) (pc + 1) (machine_of a)
  jumped :
      {pc : ℕ} {s : Machine} (l : ℕ) → at_place c.code pc ≡ Some (line.Jmp l)
      → Steps c pc s [] (c.place l) s
  taken :
      {pc : ℕ} {s : Machine} (k : Cond) (l : ℕ) → at_place c.code pc ≡ Some (line.Jcc k l)
      → holds k (state_at s 0) ≡ Some true
      → Steps c pc s (event.Branch true ∷ []) (c.place l) s
  passed :
      {pc : ℕ} {s : Machine} (k : Cond) (l : ℕ) → at_place c.code pc ≡ Some (line.Jcc k l)
      → holds k (state_at s 0) ≡ Some false
      → Steps c pc s (event.Branch false ∷ []) (pc + 1) s

-- so many steps
pub data Runs (c : Resolved) : ℕ → ℕ → Machine → List Event → ℕ → Machine → Type 0 where
  stops : {pc : ℕ} {s : Machine} → Runs c zero pc s [] pc s
  runs :
      {k pc pc1 pc2 : ℕ} {s s1 s2 : Machine} {es fs : List Event}
      → Steps c pc s es pc1 s1 → Runs c k pc1 s1 fs pc2 s2 → Runs c (suc k) pc s (es ++ fs) pc2 s2
