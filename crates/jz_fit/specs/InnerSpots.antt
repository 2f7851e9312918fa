-- What private contracts alone say: the operations at which a variable counts, and rows of
-- operations.
use Rattle.std.specs.Prelude.{◌≡◌, ◌↔◌, ◌<◌, ℕ, not, ◌&&◌, List, [], IsTrue, IsFalse, slice_index_or, length, nat_lt}
use Rattle.std.specs.List.{All}
use Rattle.jz_bits.specs.Has.{has}
use Rattle.jz_ir.specs.declared.code.Op.{Op}
use Rattle.jz_ir.specs.Paths.{among}
use Rattle.jz_ir.specs.Places.{op_at}
use Rattle.jz_fit.specs.declared.spots.Spots.{Spots}

-- the operations of a variable
abbrev pub list_at : List (List ℕ) → ℕ → List ℕ
list_at lists v = slice_index_or lists v []

-- each number is below the bound
abbrev pub AreWithin : ℕ → List (List ℕ) → Type 0
AreWithin count lists = All (λ list. All (λ i. i < count) list) lists

-- some operation is in the list and in the row
abbrev pub Common : List ℕ → List ℕ → Type 0
Common spots row = (i : ℕ) × IsTrue (among spots i) × IsTrue (has row i)

-- the lists of so many variables, by lists of what is live after each operation
pub record AreSpots (ops : List Op) (after : List (List ℕ)) (count : ℕ) (spots : Spots) :
    Type 0 where
  pub writes_count : length spots.writes.items ≡ count
  pub lives_count : length spots.lives.items ≡ count
  pub crosses_count : length spots.crosses.items ≡ count
  pub writes : (v i : ℕ) → v < count → among (list_at spots.writes.items v) i
      ≡ (nat_lt i (length ops) && among (op_at ops i).writes v)
  pub lives : (v i : ℕ) → v < count → among (list_at spots.lives.items v) i
      ≡ (nat_lt i (length after) && among (list_at after i) v)
  pub crosses : (v i : ℕ) → v < count → among (list_at spots.crosses.items v) i
      ≡ (nat_lt i (length ops)
      && (not (among (op_at ops i).writes v) && among (list_at after i) v))

-- the lists of one variable: the operations that write it, those after which it is live, and those
-- across which it is live
pub record Counts (ops : List Op) (Live : ℕ → ℕ → Type 0) (writes lives crosses : List ℕ) (v : ℕ) :
    Type 0 where
  pub writes_are : (i : ℕ) → IsTrue (among writes i) ↔ IsTrue (among (op_at ops i).writes v)
  pub lives_are : (i : ℕ) → IsTrue (among lives i) ↔ ((i < length ops) × Live i v)
  pub crosses_are : (i : ℕ) → IsTrue (among crosses i)
      ↔ ((i < length ops) × IsFalse (among (op_at ops i).writes v) × Live i v)

abbrev pub CountsOf : List Op → (ℕ → ℕ → Type 0) → Spots → ℕ → Type 0
CountsOf ops Live spots v =
    Counts ops Live (list_at spots.writes.items v) (list_at spots.lives.items v)
    (list_at spots.crosses.items v) v

-- there are lists of so many variables
pub record HasLists (count : ℕ) (spots : Spots) : Type 0 where
  pub writes_count : length spots.writes.items ≡ count
  pub lives_count : length spots.lives.items ≡ count
  pub crosses_count : length spots.crosses.items ≡ count
