-- Steps of the machine.
use Rattle.std.specs.Prelude.{ℕ, zero, suc, ◌+◌, ◌-◌, ◌%◌, ◌^◌, Bool, true, false, ◌&&◌, ◌==◌, nat_lt, nat_le, if◌then◌else◌, List, [], ◌∷◌, ◌++◌, length, drop, Option, Some, None, Result, Ok, Err}
use Rattle.x64_insn.specs.Memory.{Memory, loaded}
use Rattle.x64_insn.specs.declared.types.Insn.{Insn}
use Rattle.x64_insn.specs.declared.types.Insn.TheVariants as insn
use Rattle.x64_insn.specs.declared.types.Reg.TheVariants as reg
use Rattle.x64_insn.specs.declared.types.State.{State}
use Rattle.x64_insn.specs.declared.types.StepLeak.{StepLeak}
use Rattle.x64_insn.specs.declared.types.FaultKind.{FaultKind}
use Rattle.x64_insn.specs.declared.types.FaultKind.TheVariants.{NoInsn}
use Rattle.x64_insn.specs.Rows.{After, effect_of, reg_value, no_event}
use Rattle.jz_leak.specs.declared.event.Event.{Event}
use Rattle.jz_leak.specs.declared.event.Event.TheVariants as event
use Rattle.x64_decode.specs.declared.Decoded.{Decoded}
use Rattle.x64_decode.specs.declared.Decoded.TheVariants as decoded
use Rattle.x64_machine.specs.declared.step.Step.{Step}
use Rattle.x64_machine.specs.declared.step.Step.TheVariants.{Running, Ended, Fault}
use Rattle.x64_decode.specs.Decoding.{decoded_of}

-- A configuration. No step changes the entry's stack pointer and return address; without a return
-- address no RET ends.
pub record Config : Type 0 where
  pub state : State
  pub memory : Memory
  pub ended : Bool
  pub entry_rsp : ℕ
  pub entry_return : Option ℕ

-- what a step answers, shows and leaves
pub record Moved : Type 0 where
  pub answer : Step
  pub leak : StepLeak
  pub after : Config

-- the instruction at an address: a place in the code is the address less the base, and lies below
-- the code's length
unfoldable pub insn_at : List ℕ → ℕ → ℕ → Decoded
insn_at code base rip =
    if nat_le base rip && nat_lt (rip - base) (length code) then decoded_of (drop (rip - base) code)
    else decoded.Unknown

-- two numbers that are there, and equal
abbrev pub same_number : Option ℕ → Option ℕ → Bool
same_number None b = false
same_number (Some x) None = false
same_number (Some x) (Some y) = x == y

-- the stack pointer is the entry's, and its slot still holds the entry's return address
abbrev pub at_entry : Config → Bool
at_entry c =
    (reg_value c.state reg.Rsp == c.entry_rsp)
    && same_number (loaded c.memory c.entry_rsp 8) c.entry_return

abbrev pub is_ret : Insn → Bool
is_ret insn.Ret = true
is_ret other = false

-- a fault changes nothing and shows nothing
abbrev pub fault_move : Config → FaultKind → Moved
fault_move c f = record { answer = Fault f; leak = no_event; after = c }

-- a step by what its instruction does
abbrev pub moved : Config → Bool → Result After FaultKind → Moved
moved c ends (Err f) = fault_move c f
moved c ends (Ok a) = record {
  answer = if ends then Ended else Running;
  leak = a.leak;
  after = record c { state = a.state; memory = a.memory; ended = ends };
}

-- a step by what stands at rip
abbrev pub by_insn : Config → Decoded → Moved
by_insn c decoded.Unknown = fault_move c NoInsn
by_insn c decoded.Truncated = fault_move c NoInsn
by_insn c (decoded.Insn i len) =
    moved c (is_ret i && at_entry c) (effect_of i ((c.state.rip + len) % 2 ^ 64) c.state c.memory)

-- one step; where the entry has returned nothing happens any more
unfoldable pub step_of : List ℕ → ℕ → Config → Moved
step_of code base c =
    if c.ended then record { answer = Ended; leak = no_event; after = c }
    else by_insn c (insn_at code base c.state.rip)

abbrev pub branches_of : Option Bool → List Event
branches_of None = []
branches_of (Some taken) = event.Branch taken ∷ []

abbrev pub accesses_of : Option ℕ → List Event
accesses_of None = []
accesses_of (Some address) = event.Addr address ∷ []

abbrev pub divisions_of : Option (ℕ × ℕ × ℕ) → List Event
divisions_of None = []
divisions_of (Some d) = event.Div d.0 d.1 d.2 ∷ []

-- the events of a step: branch, access, division
abbrev pub events_of : StepLeak → List Event
events_of l = branches_of l.branch ++ accesses_of l.addr ++ divisions_of l.div

-- where steps lead, and all that they show
pub record Ran : Type 0 where
  pub after : Config
  pub events : List Event

-- k steps
unfoldable pub steps_of : List ℕ → ℕ → Config → ℕ → Ran
steps_of code base c zero = record { after = c; events = [] }
steps_of code base c (suc k) =
    let m = step_of code base c in
    let rest = steps_of code base m.after k in
    record { after = rest.after; events = events_of m.leak ++ rest.events }
