-- What the laws of an operation speak of.
use Rattle.std.specs.Prelude.{◌≡◌, ℕ, IsTrue}
use Rattle.x64_insn.specs.declared.types.Reg.{Reg}
use Rattle.jz_ir.specs.Paths.{among}
use Rattle.jz_operations.specs.declared.operation.Operation.{Operation}
use Rattle.jz_operations.specs.Values.{State}
use Rattle.jz_operations.specs.Rows.{Frame, inputs, accesses, access_numbers, asked, inputs_in}
use Rattle.jz_operations.specs.Reading.{reads_of}

-- two states are the same but for what variables hold
pub record AreBeside (σ τ : State) : Type 0 where
  pub left : (r : Reg) → τ.left r ≡ σ.left r
  pub flags : τ.flags ≡ σ.flags
  pub cells : τ.cells ≡ σ.cells
  pub memory : τ.memory ≡ σ.memory

-- each variable that the operation reads holds the same in both
abbrev pub ReadTheSame : Operation → State → State → Type 0
ReadTheSame o σ τ = (v : ℕ) → IsTrue (among (reads_of o) v) → τ.vars v ≡ σ.vars v

-- the flag or condition that it asks, the words that it computes with, and the numbers that its
-- accesses show, are the same in both
pub record ComputesTheSame (frame : Frame) (o : Operation) (σ τ : State) : Type 0 where
  pub condition : asked o.action τ ≡ asked o.action σ
  pub words : inputs_in frame (inputs o.action) τ ≡ inputs_in frame (inputs o.action) σ
  pub numbers : access_numbers (accesses o.action) τ ≡ access_numbers (accesses o.action) σ
