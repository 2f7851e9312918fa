-- What one safe export function comes to, and what that says of all.
use Rattle.std.specs.Prelude.{◌≡◌, ◌≤◌, ℕ, List, All, Some, slice_get, ⊤}
use Rattle.std.specs.List.{AllZip}
use Rattle.jz_tree.specs.declared.program.Fun.{Fun}
use Rattle.jz_tree.specs.declared.program.Program.{Program}
use Rattle.jz_alloc.specs.declared.placing.NoPlace as numbered
use Rattle.jz_change.specs.Views.{change_of}
use Rattle.jz_verdict.specs.Expanding.{IsExpandedAt}
use Rattle.jz_verdict.specs.Expanded.{Expanded}
use Rattle.jz_listing.specs.declared.compiled.Compiled.{Compiled}
use Rattle.jz_whole_pipeline.specs.NotCompiled.{NotCompiled}
use Rattle.jz_whole_pipeline.specs.Made.{IsMadeOf}
use Rattle.jz_declared.specs.Declared.{held_of}
use Rattle.jz_unplaced.specs.declared.unplaced.Unplaced.{Unplaced}
use Rattle.jz_unplaced.specs.Names.{refusal_of}
use Rattle.jz_verdict.specs.Said.{IsSaidOf}
use Rattle.jz_whole_pipeline.specs.Correctness.{IsCorrectOf, HasPlaces, IsRefusedFor}
use Rattle.jasminc_compile.specs.declared.outcome.Outcome.{Outcome}
use Rattle.jasminc_compile.specs.declared.outcome.Outcome.TheVariants.{Made, Not}
use Rattle.jasminc_compile.specs.declared.outcome.Unmade.{Unmade}
use Rattle.jasminc_compile.specs.declared.outcome.Unmade.TheVariants as unmade
use Rattle.jasminc_compile.specs.declared.safety.SafeFun.{SafeFun}
use Rattle.jasminc_compile.specs.SafeFunctions.{exports_of, IsSafeFun}
use Rattle.jasminc_compile.specs.Refusals.{IsTooLargeFun, IsUnmade}
use Rattle.jasminc_compile.specs.Making.{IsMade, HasNone, HasUnmade}

-- what is promised of the code of an expansion
pub record IsCompiledFrom (e : Expanded) (c : Compiled) : Type 0 where
  pub made : IsMadeOf e.fun (change_of e.change) c
  pub correct : IsCorrectOf e c
  pub said : IsSaidOf e.fun c.ct
  pub placed : HasPlaces e.fun
  pub small : c.frame ≤ 65592

-- ---- the function at a place

-- the expansion of the function there is refused
pub record IsRefusedAt (p : Program) (place : ℕ) (why : NotCompiled) : Type 0 where
  pub expanded : Expanded
  pub at : IsExpandedAt p place expanded
  pub refused : IsRefusedFor expanded.fun why

-- by the names of an expansion of it
pub record IsNamedAt (p : Program) (place : ℕ) (n : numbered.NoPlace) (u : Unplaced) : Type 0 where
  pub expanded : Expanded
  pub at : IsExpandedAt p place expanded
  pub named : u ≡ refusal_of (held_of expanded.fun) n

abbrev pub IsNameAt : Program → ℕ → List ℕ → Type 0
IsNameAt p place name = (f : Fun) × (slice_get p.funs place ≡ Some f) × (name ≡ f.name)

pub record IsUnmadeAt (p : Program) (place : ℕ) (u : Unmade) : Type 0 where
  pub function : Fun
  pub there : slice_get p.funs place ≡ Some function
  pub unmade : IsUnmade p function u

-- ---- outcomes
abbrev pub IsOutcome : Program → Fun → Outcome → Type 0
IsOutcome p f (Made c) = IsMade p f c
IsOutcome p f (Not u) = IsUnmade p f u

abbrev pub IsSafeSomewhere : Program → SafeFun → Type 0
IsSafeSomewhere p s = (f : Fun) × IsSafeFun p f s

abbrev pub IsOutcomeAt : Program → ℕ → Outcome → Type 0
IsOutcomeAt p place o = (f : Fun) × (slice_get p.funs place ≡ Some f) × IsOutcome p f o

abbrev pub AreOutcomes : Program → List Outcome → Type 0
AreOutcomes p os = AllZip (IsOutcome p) (exports_of p.funs) os

-- ---- what is told

-- where a variable has no place, no frame is too large
abbrev pub IsBehindOthers : Program → Unmade → Type 0
IsBehindOthers p (unmade.Frame name) = ⊤
IsBehindOthers p (unmade.NoPlace u) = All (HasNone (IsTooLargeFun p)) (exports_of p.funs)

pub record IsTold (p : Program) (u : Unmade) : Type 0 where
  pub has : HasUnmade p u
  pub behind : IsBehindOthers p u
