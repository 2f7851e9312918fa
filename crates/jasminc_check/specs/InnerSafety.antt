-- What is judged of the function at a place.
use Rattle.std.specs.Prelude.{◌≡◌, ◌++◌, ◌⊎◌, ℕ, true, false, List}
use Rattle.std.specs.Prelude.{Option, Some, slice_get}
use Rattle.jz_tree.specs.declared.program.Fun.{Fun}
use Rattle.jz_tree.specs.declared.program.Program.{Program}
use Rattle.jz_type_rows.specs.Exports.{is_exported}
use Rattle.jz_alarms.specs.Conditions as conditions
use Rattle.jz_asked.specs.declared.alarms.Alarm.{Alarm}
use Rattle.jz_asked.specs.Asked.{alarm_of}
use Rattle.jasminc_check.specs.Safety.{IsJudged, IsSafe, safe_line}

pub record IsJudgedAt (p : Program) (place : ℕ) (count : ℕ) (w : Option conditions.Alarm) :
    Type 0 where
  pub function : Fun
  pub there : slice_get p.funs place ≡ Some function
  pub judged : IsJudged p function count w

-- ---- each function of a program

-- the line of the function at a place behind a text, if it is exported
pub record AddsLine (p : Program) (place : ℕ) (old new : List ℕ) : Type 0 where
  pub function : Fun
  pub there : slice_get p.funs place ≡ Some function
  pub line :
      ((is_exported function.kind ≡ true) × (n : ℕ) × IsSafe p function n
      × (new ≡ old ++ safe_line function n))
      ⊎ ((is_exported function.kind ≡ false) × (new ≡ old))

-- the function at a place is exported and has this alarm first
pub record AlarmAt (p : Program) (place : ℕ) (a : Alarm) : Type 0 where
  pub function : Fun
  pub there : slice_get p.funs place ≡ Some function
  pub exported : is_exported function.kind ≡ true
  pub count : ℕ
  pub judged : IsJudged p function count (Some (alarm_of a))
