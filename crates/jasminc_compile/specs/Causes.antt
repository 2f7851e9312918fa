-- Why the functions of a text are not compiled: the table of causes.
use Rattle.std.specs.Prelude.{◌<◌, ℕ, List}
use Rattle.jz_tree.specs.declared.program.Program.{Program}
use Rattle.jasminc_source.specs.Texts.{TypesAs}
use Rattle.jasminc_source.specs.Unreadable.{IsUnread, unread_stage}
use Rattle.jasminc_check.specs.Causes.{PassesLimit, GivesAlarm}
use Rattle.jasminc_compile.specs.declared.outcome.Unmade.{Unmade}
use Rattle.jasminc_compile.specs.declared.outcome.Unmade.TheVariants as unmade
use Rattle.jasminc_compile.specs.declared.refused.Refused.{Refused}
use Rattle.jasminc_compile.specs.declared.refused.Refused.TheVariants.{Unread, Limit, Alarm, Making}
use Rattle.jasminc_compile.specs.Making.{HasUnmade}

-- an export function of the text's program is not compiled, for this reason
pub record IsUnmadeText (text : List ℕ) (u : Unmade) : Type 0 where
  pub program : Program
  pub types : TypesAs text program
  pub unmade : HasUnmade program u

abbrev pub Cause : List ℕ → Refused → Type 0
Cause text (Unread u) = IsUnread text u
Cause text (Limit l) = PassesLimit text l
Cause text (Alarm a) = GivesAlarm text a
Cause text (Making u) = IsUnmadeText text u

abbrev pub making_stage : Unmade → ℕ
making_stage (unmade.Frame name) = 8
making_stage (unmade.NoPlace u) = 9

-- the stages in their order, by their numbers: reading, limits, alarms, frames, places
abbrev pub stage_of : Refused → ℕ
stage_of (Unread u) = unread_stage u
stage_of (Limit l) = 6
stage_of (Alarm a) = 7
stage_of (Making u) = making_stage u

-- no stage before this one has a cause
abbrev pub Clear : List ℕ → ℕ → Type 0
Clear text stage = (r : Refused) → stage_of r < stage → Cause text r → ⊥

-- the first cause
pub record IsFirstCause (text : List ℕ) (r : Refused) : Type 0 where
  pub cause : Cause text r
  pub first : Clear text (stage_of r)
