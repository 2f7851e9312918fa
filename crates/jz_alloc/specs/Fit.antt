-- First fit over tables.
use Rattle.std.specs.Prelude.{◌≡◌, ℕ, ◌<◌, ◌⊎◌, List, [], IsTrue, IsFalse, slice_index_or, Option, Some}
use Rattle.jz_bits.specs.Has.{Shares}
use Rattle.jz_ir.specs.Places.{Out, placed, refused}
use Rattle.jz_alloc.specs.Tables.{row_has}
use Rattle.jz_alloc.specs.declared.fit.Fit.{Fit}
use Rattle.jz_alloc.specs.declared.fit.Fit.TheVariants as V

-- the variable, after whose writes those of the row are live, can have the place
pub record IsOpen
    (meets busy holders : List (List ℕ)) (row : List ℕ) (variable place : ℕ) : Type 0 where
  pub meets_needs : IsTrue (row_has meets place variable)
  pub not_busy : IsFalse (row_has busy place variable)
  pub not_held : Shares row (slice_index_or holders place []) → ⊥

abbrev pub out_of : Fit → Out
out_of (V.Placed places) = placed places.items
out_of (V.Refused variable places) = refused variable places.items

abbrev pub MeetsIn : List (List ℕ) → ℕ → ℕ → Type 0
MeetsIn meets variable place = (place < 20) × IsTrue (row_has meets place variable)

abbrev pub ConflictsIn : List (List ℕ) → ℕ → ℕ → Type 0
ConflictsIn rows first second =
    IsTrue (row_has rows first second) ⊎ IsTrue (row_has rows second first)

abbrev pub TakenIn : List (List ℕ) → ℕ → ℕ → Type 0
TakenIn taken variable place = IsTrue (row_has taken place variable)

-- the number of a place that a variable has
abbrev pub IsSeat : Option ℕ → Type 0
IsSeat seat = (place : ℕ) × (seat ≡ Some place) × (place < 20)
