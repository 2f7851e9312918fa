-- What is made of the export functions of a text, and the first refusal of one.
use Rattle.std.specs.Prelude.{◌≡◌, ◌≤◌, ℕ, List, ◌∷◌, ◌++◌, All, None}
use Rattle.std.specs.List.{AllZip}
use Rattle.jz_io.specs.declared.verdict.Ct.TheVariants as ct
use Rattle.jz_tree.specs.declared.program.Fun.{Fun}
use Rattle.jz_tree.specs.declared.program.Program.{Program}
use Rattle.jz_preconditions.specs.Stating.{preconditions_of}
use Rattle.jz_change.specs.Changes.{Change}
use Rattle.jasminc_check.specs.FirstAlarms.{HasFirstAlarm}
use Rattle.jz_listing.specs.declared.compiled.Compiled.{Compiled}
use Rattle.jz_compiled.specs.Correct.{IsCorrect}
use Rattle.jz_whole_pipeline.specs.Made.{IsMadeOf}
use Rattle.jz_verdict.specs.Said.{IsSaid}
use Rattle.jz_no_secrets.specs.Shown.{ShowsNothingSecret}
use Rattle.jz_no_secrets.specs.SafeExpansions.{IsExpandedExport}
use Rattle.jz_whole_pipeline.specs.Correctness.{HasPlaces}
use Rattle.jasminc_compile.specs.declared.outcome.Unmade.{Unmade}
use Rattle.jasminc_compile.specs.declared.outcome.Unmade.TheVariants as unmade
use Rattle.jasminc_compile.specs.SafeFunctions.{exports_of}
use Rattle.jasminc_compile.specs.Refusals.{IsTooLargeFun, LeavesUnplaced}

-- ---- what is made

-- what is listed as constant time shows nothing that is secret in its bytes
abbrev pub ShowsIfListed : Fun → Compiled → Type 0
ShowsIfListed f c = c.ct ≡ ct.Yes → ShowsNothingSecret f c

-- It is correct compilation of f, and what it says of constant time is so, of the bytes too. An
-- expansion of f has no alarm, its stack variables are within the limit, its variables have places,
-- and these are its bytes.
pub record IsMade (p : Program) (f : Fun) (c : Compiled) : Type 0 where
  pub expanded : Fun
  pub change : Change
  pub count : ℕ
  pub from : IsExpandedExport p f expanded change count
  pub none : HasFirstAlarm expanded (preconditions_of f) None
  pub bytes : IsMadeOf expanded change c
  pub placed : HasPlaces expanded
  pub small : c.frame ≤ 65592
  pub correct : IsCorrect IsSaid p f c
  pub secrets : ShowsIfListed f c

-- one for each export function, in the order of the text
abbrev pub AreMade : Program → List Compiled → Type 0
AreMade p cs = AllZip (IsMade p) (exports_of p.funs) cs

-- ---- what is not

abbrev pub HasNone : {A : Type 0} → (Fun → A → Type 0) → Fun → Type 0
HasNone {A} Refuses f = (a : A) → Refuses f a → ⊥

-- of the functions the first with a refusal of the kind has this one
pub record IsFirstOf {A : Type 0} (Refuses : Fun → A → Type 0) (funs : List Fun) (a : A) : Type 0
  where
    pub front : List Fun
    pub function : Fun
    pub rest : List Fun
    pub split : funs ≡ front ++ function ∷ rest
    pub earlier : All (HasNone Refuses) front
    pub here : Refuses function a

abbrev pub HasUnmade : Program → Unmade → Type 0
HasUnmade p (unmade.Frame name) = IsFirstOf (IsTooLargeFun p) (exports_of p.funs) name
HasUnmade p (unmade.NoPlace u) = IsFirstOf (LeavesUnplaced p) (exports_of p.funs) u
