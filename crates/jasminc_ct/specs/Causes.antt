-- Why the functions of a text are not known to be constant time: the table of causes.
use Rattle.std.specs.Prelude.{◌<◌, ℕ, List}
use Rattle.jz_tree.specs.declared.program.Program.{Program}
use Rattle.jasminc_source.specs.declared.limits.FunLimit.{FunLimit}
use Rattle.jasminc_source.specs.Texts.{TypesAs}
use Rattle.jasminc_source.specs.Unreadable.{IsUnread, unread_stage}
use Rattle.jasminc_source.specs.Exports.{HasLimit}
use Rattle.jasminc_ct.specs.declared.breaches.FunBreach.{FunBreach}
use Rattle.jasminc_ct.specs.declared.refused.Refused.{Refused}
use Rattle.jasminc_ct.specs.declared.refused.Refused.TheVariants.{Unread, Limit, Breach}
use Rattle.jasminc_ct.specs.Judging.{HasBreach}

-- an export function of the text's program passes a limit, and the first that does passes this one
pub record PassesLimit (text : List ℕ) (l : FunLimit) : Type 0 where
  pub program : Program
  pub types : TypesAs text program
  pub limit : HasLimit program l

-- an export function of the text's program has a breach, and the first that does has this one
pub record IsBreached (text : List ℕ) (x : FunBreach) : Type 0 where
  pub program : Program
  pub types : TypesAs text program
  pub breach : HasBreach program x

abbrev pub Cause : List ℕ → Refused → Type 0
Cause text (Unread u) = IsUnread text u
Cause text (Limit l) = PassesLimit text l
Cause text (Breach x) = IsBreached text x

-- the stages in their order, by their numbers among those of all commands: reading, limits, labels
abbrev pub stage_of : Refused → ℕ
stage_of (Unread u) = unread_stage u
stage_of (Limit l) = 6
stage_of (Breach x) = 7

-- no stage before this one has a cause
abbrev pub Clear : List ℕ → ℕ → Type 0
Clear text stage = (r : Refused) → stage_of r < stage → Cause text r → ⊥

-- the first cause
pub record IsFirstCause (text : List ℕ) (r : Refused) : Type 0 where
  pub cause : Cause text r
  pub first : Clear text (stage_of r)
