-- Where `exec` starts a compiled function of the whole language: its arguments, and that no step
-- faults.
use Rattle.std.specs.Prelude.{◌≡◌, ℕ, ◌%◌, List, [], ◌∷◌, ⊤}
use Rattle.jz_words.specs.Sizes.{modulus}
use Rattle.jz_words.specs.Memory.{Memory}
use Rattle.jz_tree.specs.declared.program.Fun.{Fun}
use Rattle.jz_items.specs.declared.item.Item.{Item}
use Rattle.jz_items.specs.Items.{words_of}
use Rattle.jz_listing.specs.declared.compiled.Arg.{Arg}
use Rattle.jz_listing.specs.declared.compiled.Compiled.{Compiled}
use Rattle.jz_correct.specs.Agreement.{NeverFaults}
use Rattle.jasminc_steps.specs.Starting.{code_base, exec_start}
use Rattle.jasminc_starts.specs.Memories.{IsStartMemory}

-- ---- arguments
-- argument words are the low bits of the items' words, by the lines of the listing
abbrev pub AreLowBits : List Arg → List ℕ → List ℕ → Type 0
AreLowBits [] [] [] = ⊤
AreLowBits (a ∷ args) (n ∷ ns) (w ∷ words) = (w ≡ n % modulus a.size) × AreLowBits args ns words
AreLowBits _ _ _ = ⊥

-- ---- steps
-- started on these words and items no step faults
abbrev pub IsSafe : Compiled → Fun → List ℕ → List Item → Type 0
IsSafe c f words items =
    (m : Memory) → IsStartMemory c.frame f words items m
    → NeverFaults c.code code_base (exec_start (words_of items) m)
