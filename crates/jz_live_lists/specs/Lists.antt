-- Lists of what is live after each operation.
use Rattle.std.specs.Prelude.{◌↔◌, ◌<◌, ℕ, List, [], IsTrue, slice_index_or}
use Rattle.jz_ir.specs.Paths.{among}

-- of so many lists each has exactly the variables that are live after its operation
abbrev pub EachLists : ℕ → List (List ℕ) → (ℕ → ℕ → Type 0) → Type 0
EachLists count rows Live =
    (i : ℕ) → i < count → (v : ℕ) → IsTrue (among (slice_index_or rows i []) v) ↔ Live i v
