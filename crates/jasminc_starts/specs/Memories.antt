-- The memory where `exec` starts a compiled function of the whole language.
use Rattle.std.specs.Prelude.{◌≡◌, ◌<◌, ◌≤◌, ℕ, ◌+◌, ◌-◌, List, None, replicate}
use Rattle.jz_words.specs.Memory.{Memory}
use Rattle.jz_tree.specs.declared.program.Fun.{Fun}
use Rattle.jz_leak.specs.MemoryMap.{AddsBytes}
use Rattle.jz_preconditions.specs.Stating.{preconditions_of}
use Rattle.jz_items.specs.declared.item.Item.{Item}
use Rattle.jz_inputs.specs.Held.{byte_at}
use Rattle.jz_inputs.specs.Inputs.{HoldsRegions}
use Rattle.jasminc_steps.specs.Starting.{return_slot}

-- ---- the stack
-- no byte of items stands where a stack may stand: from the lowest address of a stack up to here
abbrev pub lowest_stack : ℕ
lowest_stack = 0x7fff00000000

abbrev pub stack_end : ℕ
stack_end = 0x800000000000

abbrev pub StandApart : List Item → Type 0
StandApart items = (q : ℕ) → lowest_stack ≤ q → q < stack_end → byte_at items q ≡ None

-- the largest frame below the return slot
abbrev pub most_frame : ℕ
most_frame = 4294901768

-- ---- the memory
-- The memory where `exec` starts a function on argument words and items, with a frame of so many
-- bytes: the regions have the items' bytes; the frame, and above it the return slot, are 0; no
-- other byte is valid.
pub record IsStartMemory (frame : ℕ) (f : Fun) (words : List ℕ) (items : List Item) (m : Memory) :
    Type 0 where
  pub input : Memory
  pub holds : HoldsRegions f words items (preconditions_of f) input
  pub added : AddsBytes input m (return_slot - frame) (replicate (frame + 8) 0)
