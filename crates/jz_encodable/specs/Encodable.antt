-- Which operations have an instruction with a spelling, whatever places their variables get.
use Rattle.std.specs.Prelude.{◌≡◌, ◌≢◌, ◌≤◌, ℕ, Bool, true, ◌&&◌, IsTrue}
use Rattle.x64_insn.specs.declared.types.Place.{Place}
use Rattle.x64_insn.specs.declared.types.Place.TheVariants as place
use Rattle.x64_insn.specs.declared.types.Reg.TheVariants as reg
use Rattle.x64_insn.specs.Chosen.{is_spelled}
use Rattle.jz_ir.specs.Paths.{among}
use Rattle.jz_operations.specs.declared.operation.Action.{Action}
use Rattle.jz_operations.specs.declared.operation.Operation.{Operation}
use Rattle.jz_operations.specs.Rows.{accesses}
use Rattle.jz_operations.specs.Reading.{reads_of, writes_of}
use Rattle.jz_operations.specs.Insns.{reg_of, insn_of, AllFit}

-- the stack variables stand below the limit of a frame
abbrev pub AreNear : (ℕ → ℕ) → Type 0
AreNear slots = (v : ℕ) → slots v ≤ 65536

-- none of the variables of an operation is in the stack pointer
pub record IsOffStack (places : ℕ → Place) (o : Operation) : Type 0 where
  pub reads : (v : ℕ) → IsTrue (among (reads_of o) v) → reg_of (places v) ≢ reg.Rsp
  pub writes : (v : ℕ) → IsTrue (among (writes_of o) v) → reg_of (places v) ≢ reg.Rsp

-- The instruction of the operation has a spelling, and its cells displacements of 32 bits,
-- whichever registers but the stack pointer its variables get.
pub record IsEncodable (o : Operation) : Type 0 where
  pub spelled : (places : ℕ → Place) (slots : ℕ → ℕ) → AreNear slots → IsOffStack places o
      → is_spelled (insn_of places slots o.action) ≡ true
  pub fits : (slots : ℕ → ℕ) → AreNear slots → AllFit slots (accesses o.action)

-- with each variable in RAX, and each stack variable so far above the stack pointer
abbrev pub is_spelled_at : ℕ → Action → Bool
is_spelled_at d a = is_spelled (insn_of (λ v. place.Reg reg.Rax) (λ v. d) a)

abbrev pub can_encode : Action → Bool
can_encode a = is_spelled_at 0 a && is_spelled_at 65536 a

abbrev pub CanEncode : Action → Type 0
CanEncode a = IsTrue (can_encode a)
