-- The outcomes of functions, and which of them is told.
use Rattle.std.specs.Prelude.{◌≡◌, ◌⊎◌, ℕ, Bool, true, false, List, take, All, Some, slice_get, ⊤}
use Rattle.jasminc_compile.specs.declared.outcome.Outcome.{Outcome}
use Rattle.jasminc_compile.specs.declared.outcome.Outcome.TheVariants.{Made, Not}
use Rattle.jasminc_compile.specs.declared.outcome.Unmade.{Unmade}
use Rattle.jasminc_compile.specs.declared.outcome.Unmade.TheVariants as unmade
use Rattle.jasminc_compile.specs.declared.settling.Stage.{Stage}
use Rattle.jasminc_compile.specs.declared.settling.Stage.TheVariants as stage

-- the stage of a refusal is this one
abbrev pub is_frame : Stage → Bool
is_frame stage.Frame = true
is_frame stage.Places = false

abbrev pub is_places : Stage → Bool
is_places stage.Frame = false
is_places stage.Places = true

abbrev pub is_of : Stage → Unmade → Bool
is_of s (unmade.Frame name) = is_frame s
is_of s (unmade.NoPlace u) = is_places s

-- the stage refuses what comes to this
abbrev pub comes_to : Stage → Outcome → Bool
comes_to s (Made c) = false
comes_to s (Not u) = is_of s u

abbrev pub IsNotAt : Stage → Outcome → Type 0
IsNotAt s o = comes_to s o ≡ false

abbrev pub IsMadeOne : Outcome → Type 0
IsMadeOne (Made c) = ⊤
IsMadeOne (Not u) = ⊥

-- the outcome at that place is a refusal
abbrev pub IsRefusal : List Outcome → ℕ → Type 0
IsRefusal os i = (u : Unmade) × (slice_get os i ≡ Some (Not u))

-- it is the first that the stage refuses
pub record IsFirstAt (s : Stage) (os : List Outcome) (i : ℕ) : Type 0 where
  pub unmade : Unmade
  pub there : slice_get os i ≡ Some (Not unmade)
  pub here : is_of s unmade ≡ true
  pub earlier : All (IsNotAt s) (take i os)

-- it is the first of the first stage that refuses one
abbrev pub IsFirstRefusal : List Outcome → ℕ → Type 0
IsFirstRefusal os i =
    IsFirstAt stage.Frame os i ⊎ (All (IsNotAt stage.Frame) os × IsFirstAt stage.Places os i)

pub record IsFirstUnmade (os : List Outcome) (u : Unmade) : Type 0 where
  pub place : ℕ
  pub there : slice_get os place ≡ Some (Not u)
  pub first : IsFirstRefusal os place
