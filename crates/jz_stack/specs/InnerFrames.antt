-- Frames as they are built: the instructions of the slots as lists.
use Rattle.std.specs.Prelude.{ℕ, ◌+◌, List, [], ◌∷◌}
use Rattle.x64_insn.specs.declared.types.Reg.{Reg}
use Rattle.jz_place.specs.declared.placed.PlacedNode.{PlacedNode}
use Rattle.jz_place.specs.declared.placed.PlacedNode.TheVariants.{Do}
use Rattle.jz_stack.specs.Framed.{save, load}

-- saves, and loads, of registers, the first slot so far above the stack pointer
abbrev pub save_nodes : ℕ → List Reg → List PlacedNode
save_nodes at [] = []
save_nodes at (r ∷ rs) = Do (save r at) ∷ save_nodes (at + 8) rs

abbrev pub load_nodes : ℕ → List Reg → List PlacedNode
load_nodes at [] = []
load_nodes at (r ∷ rs) = Do (load r at) ∷ load_nodes (at + 8) rs
