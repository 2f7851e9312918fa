-- A machine as a configuration over its code, and what a run of it answers.
use Rattle.std.specs.Prelude.{◌≡◌, ℕ, zero, suc, false, if◌then◌else◌, List, ◌++◌}
use Rattle.x64_insn.specs.Memory.{Memory, loaded}
use Rattle.x64_insn.specs.declared.types.Reg.TheVariants as reg
use Rattle.x64_insn.specs.declared.types.State.{State}
use Rattle.x64_insn.specs.Rows.{reg_value}
use Rattle.x64_machine.specs.declared.machine.Machine.{Machine}
use Rattle.x64_machine.specs.declared.step.Step.{Step}
use Rattle.x64_machine.specs.declared.step.Step.TheVariants.{Running, Ended}
use Rattle.x64_machine.specs.Steps.{Config, Moved, Ran, step_of, steps_of}

-- the code that a machine runs
abbrev pub code_of : Machine → List ℕ
code_of m = m.code

-- the address of its first byte
abbrev pub base_of : Machine → ℕ
base_of m = m.base

-- where a machine stands
abbrev pub config_of : Machine → Config
config_of m = record {
  state = m.state;
  memory = m.mem.map;
  ended = m.ended;
  entry_rsp = m.entry_rsp;
  entry_return = m.entry_return;
}

-- the configuration at entry: its stack pointer, and the return address in its slot if that is
-- valid
abbrev pub start_of : State → Memory → Config
start_of st m = record {
  state = st;
  memory = m;
  ended = false;
  entry_rsp = reg_value st reg.Rsp;
  entry_return = loaded m (reg_value st reg.Rsp) 8;
}

-- a machine over this code that stands at entry
pub record Starts
    (m : Machine) (code : List ℕ) (base : ℕ) (st : State) (memory : Memory) : Type 0 where
  pub code_is : code_of m ≡ code
  pub base_is : base_of m ≡ base
  pub config_is : config_of m ≡ start_of st memory

-- the code and its place stay
abbrev pub SameCode : Machine → Machine → Type 0
SameCode m n = (code_of n ≡ code_of m) × (base_of n ≡ base_of m)

-- what a machine's next step makes, and where its next steps lead
abbrev pub next_of : Machine → Moved
next_of m = step_of (code_of m) (base_of m) (config_of m)

abbrev pub steps_from : Machine → ℕ → Ran
steps_from m k = steps_of (code_of m) (base_of m) (config_of m) k

-- one run after another
abbrev pub followed : Ran → Ran → Ran
followed r s = record { after = s.after; events = r.events ++ s.events }

-- what no step answers: that the run has ended, or that it goes on
abbrev pub first_answer : Config → Step
first_answer c = if c.ended then Ended else Running

-- the answer of the last of k steps
unfoldable pub last_answer : List ℕ → ℕ → Config → ℕ → Step
last_answer code base c zero = first_answer c
last_answer code base c (suc k) = (step_of code base (steps_of code base c k).after).answer
