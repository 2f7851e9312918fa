-- What keeps a variable from a place, over rows of bits that say what is live after each operation.
use Rattle.std.specs.Prelude.{ℕ, ◌<◌, ◌⊎◌, List, IsTrue, IsFalse, length, Option, Some, None}
use Rattle.jz_bits.specs.Has.{has}
use Rattle.jz_ir.specs.declared.code.Op.{Op}
use Rattle.jz_ir.specs.Order.{has_place}
use Rattle.jz_ir.specs.Paths.{among}
use Rattle.jz_ir.specs.Places.{HeldByVar, TakenAt}
use Rattle.jz_alloc.specs.Tables.{row_has}

abbrev pub LiveIn : List (List ℕ) → ℕ → ℕ → Type 0
LiveIn after i variable = IsTrue (row_has after i variable)

-- something keeps the variable from the place
abbrev pub IsHeld : List Op → List (List ℕ) → List (Option ℕ) → ℕ → ℕ → Type 0
IsHeld ops after places variable place =
    (i : ℕ) × (i < length ops)
    × (((other : ℕ) × HeldByVar ops (LiveIn after) places variable place i other)
    ⊎ TakenAt ops (LiveIn after) i variable place)

-- at one operation: a variable of the row conflicts with the variable
abbrev pub VarAt : Op → List ℕ → List ℕ → ℕ → ℕ → Type 0
VarAt op after held variable other =
    IsTrue (has held other)
    × ((IsTrue (among op.writes other) × IsTrue (has after variable))
    ⊎ (IsTrue (among op.writes variable) × IsTrue (has after other)))

-- and none that was declared before it
abbrev pub FirstVarAt : Op → List ℕ → List ℕ → ℕ → ℕ → Type 0
FirstVarAt op after held variable other =
    VarAt op after held variable other
    × ((earlier : ℕ) → earlier < other → VarAt op after held variable earlier → ⊥)

-- it writes the place besides, and the variable is live across it
abbrev pub FixedAt : Op → List ℕ → ℕ → ℕ → Type 0
FixedAt op after variable place =
    IsTrue (has_place op.fixed place)
    × IsFalse (among op.writes variable)
    × IsTrue (has after variable)

-- what keeps the variable from the place there: nothing, the fixed write, or the first declared of
-- the variables that do
abbrev pub WhoAt : Op → List ℕ → List ℕ → ℕ → ℕ → Option (Option ℕ) → Type 0
WhoAt op after held variable place None =
    ((other : ℕ) → VarAt op after held variable other → ⊥) × (FixedAt op after variable place → ⊥)
WhoAt op after held variable place (Some None) =
    ((other : ℕ) → VarAt op after held variable other → ⊥) × FixedAt op after variable place
WhoAt op after held variable place (Some (Some other)) = FirstVarAt op after held variable other
