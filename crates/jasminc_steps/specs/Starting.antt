-- Where `exec` starts a function: its code, its return slot, its registers.
use Rattle.std.specs.Prelude.{ℕ, List, [], ◌∷◌, replicate, slice_set}
use Rattle.jz_words.specs.Memory.{Memory}
use Rattle.x64_insn.specs.declared.types.Reg.{Reg}
use Rattle.x64_insn.specs.declared.types.Reg.TheVariants as reg
use Rattle.x64_insn.specs.declared.types.State.{State}
use Rattle.x64_insn.specs.declared.types.FlagVal.TheVariants.{Undefined}
use Rattle.x64_insn.specs.Table.{number_of}
use Rattle.jz_correct.specs.Registers.{argument_registers}
use Rattle.x64_machine.specs.MachineRuns.{start_of}
use Rattle.x64_machine.specs.Steps.{Config}

-- where the code stands
abbrev pub code_base : ℕ
code_base = 0x400000

-- where the return address stands
abbrev pub return_slot : ℕ
return_slot = 0x7fffffff0008

-- the registers with numbers in these registers, one after the other
abbrev pub with_numbers : List ℕ → List Reg → List ℕ → List ℕ
with_numbers [] rs regs = regs
with_numbers (n ∷ ns) [] regs = regs
with_numbers (n ∷ ns) (r ∷ rs) regs = with_numbers ns rs (slice_set regs (number_of r) n)

-- each register 0, but for the stack pointer
abbrev pub bare_registers : List ℕ
bare_registers = slice_set (replicate 16 0) (number_of reg.Rsp) return_slot

-- the items stand whole in the argument registers, and no flag is defined
abbrev pub start_state : List ℕ → State
start_state items = record {
  regs = with_numbers items argument_registers bare_registers;
  rip = code_base;
  flags = replicate 5 Undefined;
}

-- where `exec` starts a function
abbrev pub exec_start : List ℕ → Memory → Config
exec_start items m = start_of (start_state items) m
