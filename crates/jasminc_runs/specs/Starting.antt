-- The machine where `exec` starts a compiled function of the whole language.
use Rattle.std.specs.Prelude.{◌≡◌, ℕ, List}
use Rattle.jz_words.specs.Memory.{Memory}
use Rattle.jz_tree.specs.declared.program.Fun.{Fun}
use Rattle.jz_items.specs.declared.item.Item.{Item}
use Rattle.jz_items.specs.Items.{words_of}
use Rattle.jz_listing.specs.declared.compiled.Compiled.{Compiled}
use Rattle.x64_machine.specs.declared.machine.Machine.{Machine}
use Rattle.x64_machine.specs.MachineRuns.{code_of, base_of, config_of}
use Rattle.jasminc_steps.specs.Starting.{code_base, exec_start}
use Rattle.jasminc_starts.specs.Memories.{IsStartMemory}

-- it has the function's code, and stands where `exec` starts it: the items' words stand whole in the
-- argument registers
pub record IsLoaded (c : Compiled) (f : Fun) (words : List ℕ) (items : List Item)
    (machine : Machine) : Type 0 where
  pub memory : Memory
  pub is_start : IsStartMemory c.frame f words items memory
  pub code_is : code_of machine ≡ c.code
  pub base_is : base_of machine ≡ code_base
  pub config_is : config_of machine ≡ exec_start (words_of items) memory
