-- The machine code of a function over variables, and when there is none.
use Rattle.std.specs.Prelude.{◌≡◌, ◌<◌, ◌≤◌, ◌⊎◌, ℕ, List, length, slice_index}
use Rattle.x64_insn.specs.declared.types.Place.{Place}
use Rattle.x64_insn.specs.declared.types.Insn.{Insn}
use Rattle.jz_ir.specs.Places.{place_at, IsPlacing, FirstFit, all_of}
use Rattle.jz_alloc.specs.Answers.{IsEvidence}
use Rattle.jz_operations.specs.declared.operation.Stacked.{Stacked}
use Rattle.jz_place.specs.declared.tree.Ir.{Ir}
use Rattle.jz_place.specs.Bodies.{body_of, seen_code, LiveInWhole}
use Rattle.jz_correct.specs.Frames.{rounded_up, saved_of, frame_end, frame_size}
use Rattle.x64_assemble.specs.Assembling.{AreSpelled}
use Rattle.jz_stack.specs.Laying.{offsets_from, end_from, frame_of}
use Rattle.jz_events.specs.Cases.{transformer_over}
use Rattle.jz_code.specs.Runs.{Function, DoesAll}
use Rattle.jz_code.specs.declared.code.MachineCode.{MachineCode}
use Rattle.jz_code.specs.declared.code.NoCode.{NoCode}
use Rattle.jz_code.specs.declared.code.NoCode.TheVariants as no

-- first fit comes to these places
abbrev pub AreFirst : Ir → List Place → Type 0
AreFirst f places =
    FirstFit (seen_code f).ops f.kinds f.in_use (LiveInWhole f) (all_of places)

-- how far above the stack pointer each stack variable begins
abbrev pub slots_by : List Stacked → ℕ → ℕ
slots_by variables v = slice_index (offsets_from 0 variables) v

abbrev pub function_of : MachineCode → Function
function_of m = record {
  bytes = m.bytes;
  insns = m.insns;
  size = m.frame;
  transformer = m.transformer;
}

-- The stack variables stand in the frame from the stack pointer upwards, the saved registers above
-- them; the variables have places by the rule; and the bytes do what the body does.
pub record IsCodeOf (f : Ir) (variables : List Stacked) (m : MachineCode) : Type 0 where
  pub within : end_from 0 variables ≤ 65536
  pub insns : List Insn
  pub spelled : AreSpelled insns m.bytes
  pub counted : m.insns ≡ length insns
  pub saved : m.saved ≡ saved_of insns
  pub frame : m.frame ≡ frame_size (frame_end (end_from 0 variables) m.saved)
  pub transformer : m.transformer ≡ transformer_over (slots_by variables) m.frame
      (rounded_up 8 (end_from 0 variables)) m.saved (body_of f.body)
  pub places : List Place
  pub first : AreFirst f places
  pub rule : IsPlacing (seen_code f) (LiveInWhole f) places
  pub runs : DoesAll f (frame_of variables) (λ v. place_at places v) (function_of m)

-- the stack variables take more than 65,536 bytes
abbrev pub IsTooLarge : List Stacked → NoCode → Type 0
IsTooLarge variables no.Frame = 65536 < end_from 0 variables
IsTooLarge variables (no.Place n) = ⊥

-- first fit leaves a variable without a place
abbrev pub IsUnplaced : Ir → NoCode → Type 0
IsUnplaced f no.Frame = ⊥
IsUnplaced f (no.Place n) = IsEvidence (seen_code f) (LiveInWhole f) n

-- the first of both
abbrev pub HasNoCode : Ir → List Stacked → NoCode → Type 0
HasNoCode f variables c =
    IsTooLarge variables c ⊎ ((end_from 0 variables ≤ 65536) × IsUnplaced f c)
