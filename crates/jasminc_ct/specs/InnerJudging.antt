-- What is judged of the function at a place.
use Rattle.std.specs.Prelude.{◌≡◌, ◌↔◌, ◌++◌, ◌⊎◌, ℕ, true, false, List}
use Rattle.std.specs.Prelude.{Some, slice_get}
use Rattle.jz_tree.specs.declared.program.Fun.{Fun}
use Rattle.jz_tree.specs.declared.program.Program.{Program}
use Rattle.jz_type_rows.specs.Exports.{is_exported}
use Rattle.jz_change.specs.Changes.{Change}
use Rattle.jasminc_expansions.specs.Expansions.{IsExpansion}
use Rattle.jz_ct.specs.declared.judging.Ct.{Ct}
use Rattle.jz_ct.specs.declared.judging.Ct.TheVariants as told
use Rattle.jz_ct.specs.Told.{told_by, breach_of, IsConstantTime, HasFirstBreach}
use Rattle.jasminc_ct.specs.declared.breaches.FunBreach.{FunBreach}
use Rattle.jasminc_ct.specs.Judging.{IsConstant, IsJudged, yes_line}

-- what is told of an expansion of the function at that place
pub record IsJudgedAt (p : Program) (place : ℕ) (ct : Ct) : Type 0 where
  pub function : Fun
  pub there : slice_get p.funs place ≡ Some function
  pub expanded : Fun
  pub change : Change
  pub count : ℕ
  pub expansion : IsExpansion p function expanded change count
  pub constant : (ct ≡ told.Yes) ↔ IsConstantTime expanded
  pub first : HasFirstBreach expanded (told_by ct)

-- ---- each function of a program

-- the line of the function at a place behind a text, if it is exported
pub record AddsLine (p : Program) (place : ℕ) (old new : List ℕ) : Type 0 where
  pub function : Fun
  pub there : slice_get p.funs place ≡ Some function
  pub line :
      ((is_exported function.kind ≡ true) × IsConstant p function
      × (new ≡ old ++ yes_line function))
      ⊎ ((is_exported function.kind ≡ false) × (new ≡ old))

-- the function at a place is exported, is this one by its name, and has this breach first
pub record BreachAt (p : Program) (place : ℕ) (x : FunBreach) : Type 0 where
  pub function : Fun
  pub there : slice_get p.funs place ≡ Some function
  pub exported : is_exported function.kind ≡ true
  pub named : x.fun ≡ function.name
  pub judged : IsJudged p function (Some (breach_of x.breach))
