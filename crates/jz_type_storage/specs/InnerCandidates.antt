-- Which functions may reach themselves, where no call is of a function of higher rank: those with a
-- call of one of equal rank.
use Rattle.std.specs.Prelude.{◌≡◌, ◌<◌, ◌⊎◌, ℕ, List, Option, Some, None, slice_get, slice_index_or}
use Rattle.jz_tree.specs.Span.{Span}
use Rattle.jz_tree.specs.declared.program.Fun.{Fun}
use Rattle.jz_type_names.specs.Order.{Before}
use Rattle.jz_type_storage.specs.declared.fall.Candidate.{Candidate}
use Rattle.jz_type_storage.specs.InnerNumbers.{Has, row_of}

-- there is a candidate, which stands at that place or before
abbrev pub IsNoLater : Option Candidate → Span → Type 0
IsNoLater None at = ⊥
IsNoLater (Some c) at = Before c.name at ⊎ (c.name ≡ at)

-- each function that i calls has a lower rank
abbrev pub IsSteep : List (List ℕ) → List ℕ → ℕ → Type 0
IsSteep g ranks i = (j : ℕ) → Has (row_of g i) j → slice_index_or ranks j 0 < slice_index_or ranks i 0

-- a function of that number has its name at that place
pub record Stands (fs : List Fun) (c : Candidate) : Type 0 where
  pub function : Fun
  pub there : slice_get fs c.number ≡ Some function
  pub place : function.span ≡ c.name

-- a candidate is a function, and each of the first n functions that is not steep stands there or
-- later
pub record IsCandidate (g : List (List ℕ)) (fs : List Fun) (ranks : List ℕ) (n : ℕ) (first : Option Candidate) : Type 0 where
  pub stands : (c : Candidate) → first ≡ Some c → Stands fs c
  pub others : (i : ℕ) (f : Fun) → i < n → slice_get fs i ≡ Some f → IsSteep g ranks i ⊎ IsNoLater first f.span
