-- Instructions in a tree: what each does to registers, flags and memory, by the instruction table,
-- and what a test asks. None of them is a jump.
use Rattle.std.specs.Prelude.{ℕ, List, [], ◌∷◌, ◌++◌, Bool, true, Option, Some, None, Result, Ok, Err}
use Rattle.std.specs.Option.{option_to_list}
use Rattle.jz_words.specs.Memory.{Memory}
use Rattle.x64_insn.specs.declared.types.Insn.{Insn}
use Rattle.x64_insn.specs.declared.types.Cond.{Cond}
use Rattle.x64_insn.specs.declared.types.State.{State}
use Rattle.x64_insn.specs.declared.types.FlagVal.{FlagVal}
use Rattle.x64_insn.specs.declared.types.StepLeak.{StepLeak}
use Rattle.x64_insn.specs.declared.types.FaultKind.{FaultKind}
use Rattle.x64_insn.specs.declared.types.FaultKind.TheVariants.{UndefinedFlag}
use Rattle.x64_insn.specs.Rows.{After, effect_of, holds}
use Rattle.jz_runs.specs.Trees.{Tree}
use Rattle.jz_runs.specs.Rules.{Attempt, stuck, went, Parts}

-- ---- states
-- registers, flags and memory; where an instruction stands plays no part
pub record Machine : Type 0 where
  pub regs : List ℕ
  pub flags : List FlagVal
  pub memory : Memory

abbrev pub state_of : Machine → State
state_of s = record { regs = s.regs; rip = 0; flags = s.flags }

abbrev pub machine_of : After → Machine
machine_of a = record { regs = a.state.regs; flags = a.state.flags; memory = a.memory }

-- ---- what leaks
-- high word, low word and divisor
abbrev pub division_numbers : Option (ℕ × ℕ × ℕ) → List ℕ
division_numbers None = []
division_numbers (Some d) = d.0 ∷ d.1 ∷ d.2 ∷ []

-- the address of an access, and the operands of a division
abbrev pub numbers_of : StepLeak → List ℕ
numbers_of l = option_to_list l.addr ++ division_numbers l.div

-- ---- an instruction, by its row of the table
abbrev pub by_effect : Result After FaultKind → Attempt FaultKind Machine
by_effect (Ok a) = went (numbers_of a.leak) (machine_of a)
by_effect (Err f) = stuck f

abbrev pub does : Insn → Machine → Attempt FaultKind Machine
does i s = by_effect (effect_of i 0 (state_of s) s.memory)

-- ---- tests
-- `true`; or whether a condition holds, behind an instruction that sets flags, or by the flags that
-- are there
pub data Test : Type 0 where
  always : Test
  if_holds : Option Insn → Cond → Test

abbrev pub does_if : Option Insn → Machine → Attempt FaultKind Machine
does_if None s = went [] s
does_if (Some i) s = does i s

abbrev pub answer : List ℕ → Option Bool → Attempt FaultKind Bool
answer ns None = stuck UndefinedFlag
answer ns (Some b) = went ns b

abbrev pub answer_behind : Cond → Attempt FaultKind Machine → Attempt FaultKind Bool
answer_behind c (stuck f) = stuck f
answer_behind c (went ns s) = answer ns (holds c (state_of s))

abbrev pub tests : Test → Machine → Attempt FaultKind Bool
tests always s = went [] true
tests (if_holds i c) s = answer_behind c (does_if i s)

abbrev pub state_behind : Machine → Attempt FaultKind Machine → Machine
state_behind s (stuck f) = s
state_behind s (went ns t) = t

-- a test leaves the flags that its instruction sets
abbrev pub settled : Test → Machine → Machine
settled always s = s
settled (if_holds i c) s = state_behind s (does_if i s)

-- ---- the language
-- there are no counters and no calls
abbrev pub Code : Type 0
Code = Tree Insn Test ⊥ ⊥

abbrev pub instructions : Parts Insn Test ⊥ ⊥ Machine FaultKind
instructions = record {
  does = does;
  quiets = λ o s. s;
  tests = tests;
  settled = settled;
  counts = λ f s. absurd f;
  begins = λ f i s. s;
  restores = λ f s t. t;
  enters = λ c s. absurd c;
  leaves = λ c s t. absurd c;
}
