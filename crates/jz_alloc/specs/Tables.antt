-- What the tables say.
use Rattle.std.specs.Prelude.{◌≡◌, ◌<◌, ℕ, zero, suc, ◌+◌, ◌/◌, Bool, false, not, ◌&&◌, ◌||◌, List, [], slice_index_or, length}
use Rattle.std.specs.List.{All}
use Rattle.jz_bits.specs.Has.{has}
use Rattle.jz_ir.specs.declared.code.Op.{Op}
use Rattle.jz_ir.specs.Order.{has_place}
use Rattle.jz_ir.specs.Paths.{among}
use Rattle.jz_ir.specs.Places.{op_at}

-- some number below the bound passes
abbrev pub any_below : ℕ → (ℕ → Bool) → Bool
any_below zero passes = false
any_below (suc bound) passes = any_below bound passes || passes bound

-- each row has a bit for each of so many variables
abbrev pub AllWide : ℕ → List (List ℕ) → Type 0
AllWide count rows = All (λ row. length row ≡ count / 64 + 1) rows

abbrev pub row_has : List (List ℕ) → ℕ → ℕ → Bool
row_has rows i number = has (slice_index_or rows i []) number

-- of so many rows each has exactly the variables that pass at its place
abbrev pub EachHas : ℕ → List (List ℕ) → (ℕ → ℕ → Bool) → Type 0
EachHas count rows passes =
    (i variable : ℕ) → i < count → has (slice_index_or rows i []) variable ≡ passes i variable

-- the operation i writes the place besides, and the variable is live across it
abbrev pub is_taken : List Op → List (List ℕ) → ℕ → ℕ → ℕ → Bool
is_taken ops after i variable place =
    has_place (op_at ops i).fixed place
    && (not (among (op_at ops i).writes variable) && row_has after i variable)

-- the operation i writes the one, and the other is live after it
abbrev pub reaches : List Op → List (List ℕ) → ℕ → ℕ → ℕ → Bool
reaches ops after i written variable =
    among (op_at ops i).writes written && row_has after i variable
