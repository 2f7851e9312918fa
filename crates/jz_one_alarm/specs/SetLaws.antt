-- The first alarm by the set of the constants, as a law.
use Rattle.std.specs.Prelude.{ℕ, ◌≡◌, List, Option}
use Rattle.jz_tree.specs.declared.expr.Var.{Var}
use Rattle.jz_meaning.specs.Statements.{Block}
use Rattle.jz_facts.specs.Facts.{Given, is_among}
use Rattle.jz_alarms.specs.Conditions.{Alarm}
use Rattle.jz_alarms.specs.Alarms.{IsFirstAlarm}

-- the parameters and the regions are the same, and so is the set of the constants
pub record IsGivenAlike (g h : Given) : Type 0 where
  pub params : g.params ≡ h.params
  pub regions : g.regions ≡ h.regions
  pub consts : (c : ℕ) → is_among c g.consts ≡ is_among c h.consts

abbrev pub OneAlarmOfSet : Type 0
OneAlarmOfSet =
    (g h : Given) (body : Block) (results : List Var) (v w : Option Alarm) → IsGivenAlike g h
    → IsFirstAlarm g body results v → IsFirstAlarm h body results w → v ≡ w
