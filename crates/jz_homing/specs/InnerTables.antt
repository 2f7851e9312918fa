-- What a table of homes keeps as it grows.
use Rattle.std.specs.Prelude.{◌≡◌, ◌<◌, ℕ, false, List, length, slice_get, slice_index_or, Option, Some, None}
use Rattle.jz_ir.specs.declared.code.Kind.{Kind}
use Rattle.jz_ir.specs.declared.code.Kind.TheVariants as kind
use Rattle.jz_meaning.specs.States.{Key, same_key}
use Rattle.jz_operations.specs.declared.operation.Stacked.{Stacked}
use Rattle.jz_operands.specs.declared.homes.Home.{Home}
use Rattle.jz_operands.specs.declared.homes.Home.TheVariants.{Word, Flag, Slot, Cells}
use Rattle.jz_homing.specs.Tables.{Table}

-- the number of the variable, or of the stack variable
abbrev pub variable_of : Home → Option ℕ
variable_of (Word n z) = Some n
variable_of (Flag n) = Some n
variable_of _ = None

abbrev pub stacked_of : Home → Option ℕ
stacked_of (Slot w z) = Some w
stacked_of (Cells w z n) = Some w
stacked_of _ = None

-- two have no variable in common, and no stack variable
abbrev pub AreOther : Home → Home → Type 0
AreOther x y =
    ((n : ℕ) → variable_of x ≡ Some n → variable_of y ≡ Some n → ⊥)
    × ((w : ℕ) → stacked_of x ≡ Some w → stacked_of y ≡ Some w → ⊥)

-- what a home asks of the lists
abbrev pub IsKept : List Kind → List Stacked → Home → Type 0
IsKept ks ss (Word n z) = (n < length ks) × (slice_index_or ks n kind.Word ≡ kind.Word)
IsKept ks ss (Flag n) = (n < length ks) × (slice_index_or ks n kind.Word ≡ kind.Flag)
IsKept ks ss (Slot w z) = slice_get ss w ≡ Some (record { size = z; count = 1 })
IsKept ks ss (Cells w z n) = slice_get ss w ≡ Some (record { size = z; count = n })

-- entries that differ have other homes, each as the lists say
pub record AreEntries (t : Table) : Type 0 where
  pub kept : (k : Key) (x : Home) → t.entries k ≡ Some x → IsKept t.kinds t.stack x
  pub other : (j k : Key) (x y : Home)
      → same_key j k ≡ false → t.entries j ≡ Some x → t.entries k ≡ Some y → AreOther x y
